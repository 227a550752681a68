pub mod Shown
pub mod Shows
pub mod Joins
pub mod Turns
pub mod Rows
pub mod Bits
pub mod inner
