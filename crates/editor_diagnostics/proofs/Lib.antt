pub mod Cursors
pub mod Groups
pub mod DiagnosticTokens
