pub mod ListedLemmas
pub mod RepeatLemmas
pub mod StackLemmas
