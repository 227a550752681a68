pub mod Acceptance
pub mod Chain
pub mod Checking
pub mod Deciding
pub mod Levels
pub mod Rounds
pub mod Solving
pub mod Weight
