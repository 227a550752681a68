pub mod Decoding
pub mod Differing
pub mod Held
pub mod Assigned
pub mod Growing
pub mod PlaceLaws
pub mod Telling
