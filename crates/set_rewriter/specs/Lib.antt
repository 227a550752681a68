pub mod Edges
pub mod Subsets
pub mod Ranges
pub mod Counts
pub mod inner
