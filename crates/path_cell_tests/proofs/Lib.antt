pub mod Plain
pub mod LateReads
pub mod TestedPaths
pub mod ReadyPaths
