pub mod FiniteForms
pub mod FormPicks
pub mod inner
