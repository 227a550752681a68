pub mod TypesAmong
pub mod TypedParts
pub mod TreesAmong
pub mod ValueCells
pub mod KeptShapes
pub mod Operands
