pub mod Opened
pub mod FormsLater
pub mod Meant
mod CellValues
mod PartLemmas
mod RecordLemmas
mod BelongLemmas
mod FunctionLemmas
mod FormArms
mod Examples
pub mod SetForms
