-- Lemmas.
pub mod Assigning
pub mod AlongPaths
pub mod SoundlyAssigned
pub mod AssignedOnce
pub mod ReadLate
pub mod TextsKept
pub mod PathFacts
pub mod SoundParts
pub mod JobMarks
pub mod ConstantNames
pub mod JobNames
pub mod KernelNames
pub mod Standing
pub mod Laws
