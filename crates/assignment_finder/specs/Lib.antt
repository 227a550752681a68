-- The definitions of the crate.
pub mod Finding
pub mod inner
