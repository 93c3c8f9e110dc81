pub mod Breaches
pub mod Lists
pub mod Messages
pub mod Validation
