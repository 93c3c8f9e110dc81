pub mod LeafCheck
pub mod OneLeaf
pub mod AllAnswers
