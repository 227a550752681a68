-- The definitions of the crate.
pub mod Splitting
pub mod inner
