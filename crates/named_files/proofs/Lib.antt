pub mod SearchLemmas
pub mod Turns
