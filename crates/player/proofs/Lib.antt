pub mod Answered
pub mod Refused
