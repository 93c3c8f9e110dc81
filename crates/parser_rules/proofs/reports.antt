pub mod NoReport
pub mod AlongItems
pub mod Endings
pub mod InOrder
pub mod AtTheLimit
pub mod LimitCheck
pub mod PastTheLimit
