pub mod Typed
pub mod inner
