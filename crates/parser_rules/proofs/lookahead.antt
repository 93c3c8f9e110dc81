pub mod TokenSets
pub mod Split
pub mod FirstSets
pub mod MachineClasses
