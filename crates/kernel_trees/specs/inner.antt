pub mod Runs
pub mod Separate
