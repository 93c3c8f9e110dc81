pub mod TableLemmas
pub mod ReadingLemmas
pub mod PartLemmas
pub mod RuleLemmas
