pub mod Definitions
pub mod Mentions
pub mod Names
pub mod OwnNames
pub mod Sites
