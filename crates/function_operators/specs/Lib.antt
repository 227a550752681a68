pub mod Operands
pub mod Parts
pub mod Updates
pub mod inner
