-- Lemmas.
pub mod Passing
pub mod SameEffects
pub mod SameSteps
pub mod StaysSound
pub mod Assigning
pub mod Picking
pub mod AlongPaths
pub mod HasPathBounds
pub mod Starting
pub mod PathExamples
