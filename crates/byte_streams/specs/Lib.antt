pub mod Devices
pub mod EndsReading
pub mod Writing
pub mod Runs
