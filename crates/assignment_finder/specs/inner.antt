pub mod Open
pub mod Reads
pub mod Places
pub mod Steps
