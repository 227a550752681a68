pub mod Answered
pub mod Commands
pub mod Names
pub mod Numbers
pub mod Saved
pub mod Texts
pub mod Told
