pub mod States
pub mod Theorems
