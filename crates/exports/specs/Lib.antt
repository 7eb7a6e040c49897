pub mod Calls
pub mod Parts
pub mod Files
pub mod Compared
pub mod Blanked
pub mod Rest
