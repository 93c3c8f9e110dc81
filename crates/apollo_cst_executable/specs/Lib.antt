pub mod Value
pub mod Ty
pub mod Literals
pub mod Selection
