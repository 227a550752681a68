pub mod Growing
pub mod Formulas
pub mod Bits
pub mod Branches
pub mod Levels
pub mod Chains
pub mod Examples
