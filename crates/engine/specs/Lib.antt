pub mod Entry
pub mod Accepted
pub mod Theorems
pub mod Provenance
pub mod Inside
pub mod Rest
pub mod Editions
