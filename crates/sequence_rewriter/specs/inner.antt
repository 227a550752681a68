pub mod Lengths
pub mod Shifts
pub mod Glued
pub mod Cuts
pub mod Domains
