pub mod Folders
pub mod Order
pub mod Readings
pub mod OneFlat
pub mod Joins
