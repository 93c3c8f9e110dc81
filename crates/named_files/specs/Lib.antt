pub mod Names
pub mod Finding
pub mod Search
pub mod Handling
