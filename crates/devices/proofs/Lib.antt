pub mod Numbered
pub mod Changing
