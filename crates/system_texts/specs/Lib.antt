-- The definitions of the crate.
pub mod SystemTexts
pub mod inner
