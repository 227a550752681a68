pub mod Defaulted
pub mod Places
