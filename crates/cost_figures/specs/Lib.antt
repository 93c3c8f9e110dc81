pub mod Expansion
pub mod Counts
pub mod Outcome
pub mod Limiting
pub mod Walks
