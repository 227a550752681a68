pub mod Cells
pub mod Decode
pub mod Growth
pub mod inner
