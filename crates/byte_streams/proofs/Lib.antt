pub mod Accounts
pub mod Ends
