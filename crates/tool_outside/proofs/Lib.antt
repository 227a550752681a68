mod Names
pub mod Prefixes
