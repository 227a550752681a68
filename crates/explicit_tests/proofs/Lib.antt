-- Lemmas of the crate.
pub mod Levels
