pub mod Listings
pub mod Tests
pub mod Steps
