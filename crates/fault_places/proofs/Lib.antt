pub mod PlacingLemmas
pub mod FaultsAt
pub mod TableAt
pub mod NodesAt
pub mod TreesAt
pub mod Placed
pub mod PlaceExamples
