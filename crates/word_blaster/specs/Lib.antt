pub mod Word
pub mod Quotient
pub mod inner
