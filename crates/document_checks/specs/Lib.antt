pub mod Checking
pub mod Documents
pub mod Findings
pub mod Passing
pub mod Schemas
pub mod Warnings
