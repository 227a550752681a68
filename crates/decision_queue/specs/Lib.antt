pub mod Queue
pub mod Ring
