-- Lemmas.
pub mod PlaceOrder
pub mod Listing
pub mod FirstReads
pub mod FormPlaces
pub mod Opening
pub mod Taking
pub mod Walking
