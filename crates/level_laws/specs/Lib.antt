pub mod Constraints
pub mod Branches
pub mod Levels
pub mod Chains
