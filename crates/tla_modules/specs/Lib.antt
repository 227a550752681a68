pub mod Sources
pub mod Refusals
pub mod Answers
pub mod inner
