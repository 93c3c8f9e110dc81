-- Diagnostics on a document.
use Rattle.std.specs.Prelude.{ℕ, List, [], ◌∷◌, Option, string_bytes}
use Rattle.editor_diagnostics.specs.declared.diagnostic.Diagnostic.{Diagnostic}
use Rattle.editor_diagnostics.specs.declared.diagnostic.Severity.{Severity}
use Rattle.editor_diagnostics.specs.declared.diagnostic.Severity.TheVariants.{Error, Warning}

-- `DiagnosticSeverity` (Language Server Protocol 3.17)
abbrev pub severity_number : Severity → ℕ
severity_number Error = 1
severity_number Warning = 2

-- the bytes from one offset up to another, the rule that it is about, how serious it is, the message, and where a brace
-- opens that is never closed, if that is what is wrong
pub record Diagnosis : Type 0 where
  pub start : ℕ
  pub end : ℕ
  pub code : List ℕ
  pub severity : Severity
  pub message : List ℕ
  pub open_brace : Option ℕ

abbrev pub as_diagnosis : Diagnostic → Diagnosis
as_diagnosis r = record {
  start = r.start;
  end = r.end;
  code = r.code.now;
  severity = r.severity;
  message = string_bytes r.message;
  open_brace = r.open_brace;
}

-- the first diagnostic names a brace, or none
abbrev pub with_brace : Option ℕ → List Diagnosis → List Diagnosis
with_brace brace [] = []
with_brace brace (r ∷ rs) = record r { open_brace = brace } ∷ rs
