pub mod Editions
pub mod Theorems
