pub mod Accounts
pub mod Conversations
pub mod Failures
pub mod Turns
mod NameLemmas
pub mod FrameLemmas
pub mod NumeralLemmas
pub mod WrittenLemmas
pub mod Views
