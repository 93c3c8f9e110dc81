pub mod Follows
pub mod Samples
pub mod Labels
