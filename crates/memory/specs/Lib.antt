pub mod World
pub mod Access
pub mod Promises
pub mod Words
pub mod Theorems
pub mod Inside
