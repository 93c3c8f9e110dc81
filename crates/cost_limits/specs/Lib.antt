pub mod Measures
pub mod Limits
pub mod Items
pub mod Collecting
