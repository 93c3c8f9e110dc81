pub mod Fits
pub mod Tables
pub mod Reading
pub mod Parts
pub mod Lines
pub mod Paths
pub mod Ignored
