pub mod Fronts
pub mod Showing
