pub mod FieldOrder
pub mod KindSorts
pub mod Known
pub mod Defaults
pub mod inner
