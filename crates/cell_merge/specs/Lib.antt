pub mod Arrows
pub mod Partial
pub mod Sorts
pub mod Composites
pub mod Edges
pub mod Choices
pub mod Picks
pub mod inner
