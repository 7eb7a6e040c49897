pub mod Inside
pub mod Reading
