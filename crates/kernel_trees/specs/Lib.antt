-- The definitions of the crate.
pub mod Trees
pub mod Ways
pub mod Paths
pub mod ActionNames
pub mod Picks
pub mod Assignments
pub mod Scoped
pub mod TypeKinds
pub mod Sound
pub mod Systems
pub mod Laws
pub mod inner
