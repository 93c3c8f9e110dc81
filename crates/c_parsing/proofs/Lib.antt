pub mod FilledBuffers
pub mod Messages
pub mod OneString
pub mod Outcomes
pub mod ValueLengths
pub mod Again
pub mod ItemRows
