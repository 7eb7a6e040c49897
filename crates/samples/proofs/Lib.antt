pub mod Marking
pub mod Stepping
pub mod Voicing
pub mod Exact
pub mod Round
pub mod Staying
pub mod Theorems
