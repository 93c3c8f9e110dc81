pub mod Blocks
pub mod Locations
pub mod Clauses
