mod Decided
mod Indexed
mod Passed
mod Work
