-- The definitions of the crate.
pub mod Steps
pub mod BoundedPaths
pub mod inner
