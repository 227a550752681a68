-- Definitions.
pub mod Checking
