pub mod DifferLemmas
pub mod DistinctLemmas
pub mod EachLemmas
pub mod FoundLemmas
pub mod ListLemmas
pub mod ReadLemmas
pub mod VariableLemmas
