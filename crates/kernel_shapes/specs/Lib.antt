-- The definitions of the crate.
pub mod Shape
pub mod Fits
pub mod Rows
pub mod Counts
pub mod Sized
pub mod Trees
pub mod Kernel
pub mod Levels
pub mod TypedStates
pub mod TypedExtents
pub mod FiniteForms
pub mod Systems
pub mod Laws
pub mod Codes
