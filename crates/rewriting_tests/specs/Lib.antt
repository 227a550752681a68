pub mod OfTypes
pub mod Cases
pub mod inner
