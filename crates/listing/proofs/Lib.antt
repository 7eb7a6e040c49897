pub mod Cut
pub mod Operands
pub mod Lines
pub mod Laid
