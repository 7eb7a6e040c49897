pub mod Values
pub mod Marks
pub mod Bits
pub mod Laws
