-- What private clauses and proofs need.
pub mod Walking
