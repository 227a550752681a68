pub mod Routes
pub mod Counts
