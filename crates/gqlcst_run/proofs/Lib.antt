pub mod Forms
pub mod Items
pub mod Lines
pub mod Outputs
pub mod Buffers
pub mod Quoting
pub mod Verdicts
