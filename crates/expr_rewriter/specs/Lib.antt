pub mod Environments
pub mod Rewriting
pub mod Forming
pub mod Operating
pub mod inner
