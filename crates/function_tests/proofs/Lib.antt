pub mod Arrowed
pub mod Counted
pub mod Shaped
