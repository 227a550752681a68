-- What private clauses and proofs need.
pub mod Plain
pub mod Nodes
pub mod Table
pub mod Joined
pub mod Forms
pub mod Steps
pub mod Updated
pub mod Walks
pub mod Turns
pub mod Stage
pub mod Climbing
pub mod Equality
pub mod TypedStart
pub mod Bindings
pub mod Stacks
pub mod Bounding
