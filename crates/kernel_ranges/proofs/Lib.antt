pub mod Opened
pub mod Closed
pub mod RangeExamples
