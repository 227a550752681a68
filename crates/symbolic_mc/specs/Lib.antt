pub mod Naming
pub mod Report
pub mod Top
pub mod Words
pub mod inner
