pub mod Below
pub mod MarkLemmas
pub mod PartLemmas
pub mod ReachLemmas
pub mod SearchLemmas
