pub mod Definitions
pub mod LocationNames
pub mod Locations
pub mod Operations
pub mod Rows
pub mod Schemas
pub mod Tables
pub mod Types
