pub mod Courses
pub mod inner
