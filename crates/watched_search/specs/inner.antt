pub mod Keeping
pub mod Lists
pub mod Moving
pub mod Spans
pub mod Tables
pub mod Visiting
