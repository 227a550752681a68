pub mod FormValues
pub mod FormSorts
pub mod inner
