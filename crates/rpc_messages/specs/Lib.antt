pub mod Pieces
pub mod Messages
pub mod Nesting
pub mod Answers
pub mod Replies
pub mod Steps
