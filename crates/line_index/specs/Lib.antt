pub mod Lines
pub mod Columns
pub mod Positions
pub mod LineStarts
pub mod Marks
