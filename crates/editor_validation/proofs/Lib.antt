mod Kept
pub mod SameDiagnostics
