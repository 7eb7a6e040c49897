pub mod Timers
pub mod Devices
pub mod Lengths
pub mod Theorems
