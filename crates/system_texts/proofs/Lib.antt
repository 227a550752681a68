-- Lemmas; for the crates above `TextLaws`.
mod Once
mod FieldNames
mod AllTexts
pub mod TextLaws
