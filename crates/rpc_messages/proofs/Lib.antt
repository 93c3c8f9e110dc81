pub mod Added
pub mod Answered
pub mod Asked
pub mod Nested
