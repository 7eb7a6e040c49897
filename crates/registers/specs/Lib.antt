pub mod Fields
pub mod Flat
