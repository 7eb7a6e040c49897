pub mod Packet
pub mod Audit
pub mod Inside
pub mod Accepted
pub mod Fields
pub mod Theorems
