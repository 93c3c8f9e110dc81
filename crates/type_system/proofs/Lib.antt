pub mod Picked
pub mod RowLemmas
pub mod SchemaLemmas
pub mod TableLemmas
