pub mod NumberLemmas
pub mod Taking
pub mod Naming
pub mod Saying
