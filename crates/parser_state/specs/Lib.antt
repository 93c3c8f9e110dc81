pub mod View
pub mod Parses
pub mod Found
pub mod Errors
pub mod Sorted
pub mod Reading
pub mod Lookahead
pub mod Lengths
