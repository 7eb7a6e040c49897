pub mod Cells
pub mod Joined
pub mod Lengths
pub mod Lists
pub mod Mapped
