pub mod FiniteLaws
pub mod ValueParts
pub mod SetMembers
pub mod FormsAssigned
mod Makings
mod Listings
mod Pickings
mod Rules
pub mod TreeForms
