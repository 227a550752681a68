pub mod LineParts
pub mod Pieces
pub mod Reading
