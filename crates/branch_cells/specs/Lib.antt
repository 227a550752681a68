-- The definitions of the crate.
pub mod Ends
pub mod Branches
pub mod Along
pub mod inner
