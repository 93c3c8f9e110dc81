pub mod FolderLemmas
pub mod Outputs
pub mod PathLemmas
pub mod Reasons
pub mod Saying
pub mod Quotes
pub mod TooLong
