-- Lemmas of the crate.
pub mod Conflicts
pub mod Holding
pub mod InFiles
pub mod Journals
pub mod Checked
pub mod Firsts
pub mod AtStates
pub mod Broken
pub mod Ready
pub mod Cells
pub mod AtLevels
pub mod Decoded
pub mod Shown
pub mod Told
pub mod Certified
