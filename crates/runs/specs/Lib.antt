pub mod Run
pub mod Trace
pub mod Marks
pub mod Same
