pub mod Follows
pub mod Marks
pub mod Certificate
pub mod Place
pub mod Faults
pub mod Rechecking
pub mod inner
