pub mod Chains
pub mod Watches
