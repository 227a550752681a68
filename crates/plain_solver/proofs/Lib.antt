pub mod OccurrenceLemmas
pub mod ReadyLemmas
pub mod SatisfyLemmas
pub mod SearchLemmas
