pub mod SizeCheck
pub mod Costs
pub mod Sizes
