pub mod KnownLemmas
pub mod ReachLemmas
pub mod RowLemmas
pub mod WalkLemmas
