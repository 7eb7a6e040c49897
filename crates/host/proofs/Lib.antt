pub mod And
pub mod Keying
pub mod Laying
pub mod Loans
pub mod Registers
pub mod Turned
pub mod SoFar
pub mod BothSoFar
