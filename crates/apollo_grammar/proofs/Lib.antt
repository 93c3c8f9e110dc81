pub mod Locations
pub mod Looks
pub mod Parsing
