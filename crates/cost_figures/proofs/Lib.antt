pub mod FiguresOfParts
pub mod Expansions
pub mod Steps
