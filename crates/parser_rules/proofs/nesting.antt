pub mod LevelCheck
pub mod Nesting
pub mod TokenCheck
pub mod LevelTokens
