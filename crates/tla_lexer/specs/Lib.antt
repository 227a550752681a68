pub mod Classes
pub mod Header
pub mod Pieces
pub mod Places
pub mod Runs
pub mod Symbols
pub mod inner
