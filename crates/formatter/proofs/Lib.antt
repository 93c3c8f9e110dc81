pub mod Ignored
pub mod Parses
pub mod Items
pub mod lines
