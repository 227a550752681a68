pub mod Codes
pub mod Searching
pub mod Trail
pub mod Watching
pub mod inner
