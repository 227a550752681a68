-- What private clauses and proofs need.
pub mod Asked
pub mod Made
pub mod Growing
