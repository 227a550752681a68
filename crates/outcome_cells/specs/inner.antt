pub mod Fallible
pub mod Turns
