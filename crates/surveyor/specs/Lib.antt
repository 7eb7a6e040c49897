pub mod Survey
pub mod Compared
pub mod Lengths
pub mod AsMemories
pub mod Which
pub mod Theorems
