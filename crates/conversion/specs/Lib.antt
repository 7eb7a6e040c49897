pub mod Unnamed
pub mod Calls
pub mod Defaults
pub mod Theorems
