pub mod Comments
pub mod Texts
