pub mod Layout
pub mod Calls
pub mod Refused
pub mod Theorems
