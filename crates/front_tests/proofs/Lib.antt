-- Lemmas.
pub mod Widths
