pub mod Stretches
pub mod Calls
pub mod Maximal
pub mod Walk
