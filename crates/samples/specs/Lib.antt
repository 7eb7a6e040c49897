pub mod Fetched
pub mod Lengths
pub mod Addresses
