pub mod Reading
pub mod Above
pub mod Unignored
