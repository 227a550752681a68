pub mod Operands
pub mod Ranges
pub mod inner
