pub mod Firsts
pub mod Lists
pub mod Parts
