pub mod RecoveryCheck
pub mod IgnoredPlaces
pub mod RowSymbols
pub mod Popped
pub mod Recovers
pub mod LeftOver
pub mod OneChild
pub mod LaterChildren
