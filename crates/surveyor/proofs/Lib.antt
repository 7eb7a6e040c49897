pub mod Giving
pub mod Parts
pub mod Marking
pub mod Comparing
