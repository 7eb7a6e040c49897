pub mod Stretches
pub mod BothWays
