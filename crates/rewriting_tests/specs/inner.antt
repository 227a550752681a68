pub mod Among
pub mod KeptShapes
