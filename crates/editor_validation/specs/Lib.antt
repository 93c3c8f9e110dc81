pub mod Braces
pub mod Fragments
pub mod Mending
pub mod Diagnostics
