pub mod Locations
pub mod Members
pub mod Uses
