pub mod First
pub mod Groups
pub mod Places
pub mod Words
