pub mod Filling
pub mod Layers
