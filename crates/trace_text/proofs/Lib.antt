pub mod Behind
pub mod BlockLines
pub mod Decimals
mod Examples
pub mod FirstBadLine
pub mod Forms
pub mod Lines
pub mod Pieces
pub mod PlainValues
pub mod QuotedBytes
pub mod Runs
pub mod ValueForms
