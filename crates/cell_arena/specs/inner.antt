pub mod KindNumbers
pub mod Places
pub mod Props
