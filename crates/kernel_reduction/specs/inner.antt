pub mod Least
pub mod SameWays
pub mod Steps
pub mod Settings
