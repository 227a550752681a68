pub mod Functions
pub mod Arrows
pub mod FunctionSets
pub mod inner
