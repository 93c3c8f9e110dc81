pub mod Exchange
pub mod Serving
pub mod Frames
