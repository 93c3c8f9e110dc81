pub mod AboveLemmas
pub mod ReadingLemmas
pub mod UnignoredLemmas
