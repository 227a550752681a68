-- The definitions of the crate.
pub mod Faults
pub mod Lines
pub mod Requests
pub mod Accepted
pub mod Refused
pub mod inner
