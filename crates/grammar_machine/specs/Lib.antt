pub mod Symbols
pub mod Table
pub mod Machine
