pub mod Head
pub mod Packet
pub mod Accepted
pub mod Promises
pub mod Theorems
