-- The definitions of the crate. Begin with Answers.
pub mod Answers
pub mod Verdicts
pub mod Sections
pub mod inner
