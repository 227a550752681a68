pub mod Counted
pub mod Shaped
