pub mod Lists
pub mod Cells
pub mod Data
pub mod Rule
pub mod Format
