pub mod Session
pub mod Told
pub mod AsBefore
pub mod Bounds
pub mod Fits
pub mod Played
