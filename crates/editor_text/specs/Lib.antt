pub mod Answered
pub mod Client
pub mod Edited
pub mod Finding
