pub mod Words
pub mod Nearest
