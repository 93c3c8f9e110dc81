pub mod Masked
pub mod Steps
