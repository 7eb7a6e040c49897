pub mod Devices
pub mod Calls
pub mod Marks
pub mod Bits
pub mod Theorems
pub mod Reads
