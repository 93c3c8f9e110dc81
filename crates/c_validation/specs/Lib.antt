-- What the calls of this crate give.
pub mod Rows
pub mod Outcomes
pub mod Again
pub mod ValidTexts
