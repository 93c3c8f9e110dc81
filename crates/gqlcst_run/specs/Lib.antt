pub mod Parsing
pub mod Rendering
pub mod Passing
pub mod Buffering
pub mod Quoted
pub mod Program
pub mod Ending
