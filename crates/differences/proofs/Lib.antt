pub mod Walks
pub mod Looks
pub mod Counting
pub mod Writing
pub mod Maximal
pub mod Theorems
pub mod Refusals
pub mod SameRun
