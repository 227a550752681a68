-- What only private clauses and proofs speak of.
pub mod Gates
