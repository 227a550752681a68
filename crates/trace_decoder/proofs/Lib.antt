pub mod ReadWords
pub mod FirstPairs
pub mod Reading
pub mod States
pub mod RecordFields
pub mod TypedCells
