pub mod Standing
pub mod Excepts
pub mod Parts
pub mod Wholes
