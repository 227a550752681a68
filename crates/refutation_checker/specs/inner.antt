pub mod Lines
pub mod Reading
pub mod Sections
pub mod Status
