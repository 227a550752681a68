-- The definitions of the crate.
pub mod Readings
pub mod Ways
pub mod Branches
