pub mod Operands
pub mod Instruction
pub mod Order
pub mod Session
pub mod Lengths
pub mod Fits
pub mod Turns
