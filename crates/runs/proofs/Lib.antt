pub mod Run
pub mod Trace
pub mod Bitmaps
pub mod Exact
pub mod Agree
pub mod Inside
