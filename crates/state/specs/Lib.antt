pub mod Registers
pub mod Theorems
