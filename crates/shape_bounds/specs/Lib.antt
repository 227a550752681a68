-- The definitions of the crate.
pub mod Kept
pub mod Excesses
pub mod Sizes
pub mod inner
pub mod Stages
pub mod Extents
pub mod BoundedTrees
