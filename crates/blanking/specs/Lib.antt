pub mod Calls
pub mod Image
pub mod Theorems
pub mod Answers
pub mod Together
