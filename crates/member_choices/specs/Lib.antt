pub mod Choices
pub mod Binders
pub mod Folds
pub mod inner
