pub mod Steps
pub mod UsedNames
