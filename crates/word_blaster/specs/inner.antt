pub mod Division
pub mod Padding
