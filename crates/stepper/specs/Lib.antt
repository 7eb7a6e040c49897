pub mod Alike
pub mod Session
pub mod Told
pub mod Theorems
pub mod Fits
