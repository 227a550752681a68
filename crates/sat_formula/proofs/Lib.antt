pub mod Extension
pub mod GateClauses
pub mod Conjunctions
pub mod Keeping
