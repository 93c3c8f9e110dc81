pub mod Graph
pub mod Marks
pub mod Parts
pub mod Reach
