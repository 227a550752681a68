-- Lemmas.
pub mod Splits
pub mod Answering
pub mod LineLemmas
pub mod ToldPaths
pub mod Apart
pub mod OneKernel
