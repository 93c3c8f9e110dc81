-- What is found of texts that do not pass.
use Rattle.std.specs.Prelude.{◌≡◌, ℕ, true, false, List, [], ◌∷◌, All}
use Rattle.apollo_lexer.specs.declared.limits.Limits.{Limits}
use Rattle.apollo_parser.specs.Diagnostics.{Diagnostic}
use Rattle.first_errors.specs.Places.{IsFirstErrorOf, shown_at}
use Rattle.formatter.specs.Within.{HasCommentsAlone}
use Rattle.document_checks.specs.declared.report.Finding.{Finding}
use Rattle.document_checks.specs.declared.report.Report.{Report}

-- The text is refused for its errors, and this is the first of them. A text without a definition is not refused, though
-- its parse has an error.
pub record IsRefused (limits : Limits) (source : List ℕ) (error : Diagnostic) : Type 0 where
  pub some : ¬ HasCommentsAlone limits source
  pub first : IsFirstErrorOf limits source error

abbrev pub HasErrors : Limits → List ℕ → Type 0
HasErrors limits source = (error : Diagnostic) × IsRefused limits source error

-- If the text has errors, the first of them is shown at this byte offset.
abbrev pub IsAtFirstError : Limits → List ℕ → ℕ → Type 0
IsAtFirstError limits source offset =
    (error : Diagnostic) → IsRefused limits source error → offset ≡ shown_at source error

-- There is a finding, and the first is there.
abbrev pub AreFindings : Limits → List ℕ → List Finding → Type 0
AreFindings limits source [] = ⊥
AreFindings limits source (finding ∷ findings) = IsAtFirstError limits source finding.start

-- All of these findings are warnings.
abbrev pub AreWarnings : List Finding → Type 0
AreWarnings findings = All (λ (f : Finding). f.is_warning ≡ true) findings

-- The first of these findings is no warning.
abbrev pub BeginWithError : List Finding → Type 0
BeginWithError [] = ⊥
BeginWithError (finding ∷ findings) = finding.is_warning ≡ false

-- What the report on a text says.
pub record IsReport (limits : Limits) (source : List ℕ) (report : Report) : Type 0 where
  -- a text with errors does not pass
  pub refused : HasErrors limits source → report.passes ≡ false
  -- if it does not pass, there is a finding, and the first is there
  pub found : report.passes ≡ false → AreFindings limits source report.findings.items
  -- and it is no warning
  pub error : report.passes ≡ false → BeginWithError report.findings.items
  -- if it passes, all findings are warnings
  pub warnings : report.passes ≡ true → AreWarnings report.findings.items

-- There is such a report for each text.
abbrev pub AreReports : Limits → List (List ℕ) → List Report → Type 0
AreReports limits [] [] = Unit {0}
AreReports limits (source ∷ sources) (report ∷ reports) =
    IsReport limits source report × AreReports limits sources reports
AreReports limits sources reports = ⊥
