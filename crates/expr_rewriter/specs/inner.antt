pub mod Settings
pub mod Parts
pub mod Binding
pub mod Folding
pub mod Updating
pub mod Leaves
pub mod Owning
pub mod Forming
