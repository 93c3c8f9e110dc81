pub mod Reading
pub mod Building
pub mod Keywords
pub mod Leaves
pub mod Faults
pub mod Lookahead
pub mod Lengths
