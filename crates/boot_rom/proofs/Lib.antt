pub mod Laid
pub mod Back
pub mod Part
pub mod Aside
pub mod Made
pub mod Theorems
