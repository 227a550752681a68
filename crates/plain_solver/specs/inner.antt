pub mod Looking
pub mod Occurrences
pub mod Search
pub mod Trail
