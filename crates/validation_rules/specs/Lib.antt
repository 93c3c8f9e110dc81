pub mod Broken
pub mod Graphs
pub mod Parts
pub mod RuleNames
pub mod RuleNumbers
pub mod Selection
pub mod TextOrder
pub mod Violations
