pub mod Positions
pub mod Publication
pub mod Diagnostics
pub mod Syntax
pub mod Tokens
