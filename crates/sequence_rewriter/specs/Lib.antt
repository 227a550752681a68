pub mod Sequences
pub mod inner
