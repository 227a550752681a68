-- Lemmas.
pub mod Following
pub mod NodeWays
pub mod Tallying
pub mod NodeSteps
pub mod WalkSteps
pub mod Answering
pub mod SplitExamples
