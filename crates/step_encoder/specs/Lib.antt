-- The definitions of the crate.
pub mod Encoders
pub mod inner
