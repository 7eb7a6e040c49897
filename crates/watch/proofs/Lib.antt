pub mod Byte
pub mod Maps
pub mod Step
pub mod SoFar
