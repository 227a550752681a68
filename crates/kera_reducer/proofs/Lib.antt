-- Lemmas of the crate.
pub mod Children
pub mod RowsMade
pub mod CaseArms
pub mod ScopesMade
pub mod ActionsMade
pub mod ChildSteps
pub mod ExceptSteps
pub mod Excepted
pub mod ExceptSettings
pub mod ChildNumbers
pub mod IfOks
pub mod KernelTexts
pub mod KindTests
pub mod NameTests
pub mod PartsMade
pub mod SoundKernels
pub mod WholeNodes
