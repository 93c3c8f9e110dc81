pub mod Readings
pub mod Reports
pub mod Findings
pub mod Outcomes
pub mod Again
pub mod ViolationsAgain
pub mod ValidTexts
