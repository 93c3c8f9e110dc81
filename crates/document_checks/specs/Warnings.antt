-- Which of the texts that are judged together have warnings.
use Rattle.std.specs.List.{Any, list_any}
use Rattle.std.specs.Prelude.{◌≡◌, ◌<◌, ◌↔◌, ℕ, Bool, true, false, List, [], length, slice_index_or}
use Rattle.apollo_tree.specs.Order.{Place}
use Rattle.document_validation.specs.Validation.{IsValidation}
use Rattle.document_validation.specs.declared.validation.Validation.{Validation}
use Rattle.document_validation.specs.declared.validation.ValidationOptions.{ValidationOptions}
use Rattle.document_checks.specs.Checking.{Asked, HaveDocuments, HaveNumbers, judged_documents}
use Rattle.document_checks.specs.Findings.{HasErrors}
use Rattle.document_checks.specs.Passing.{IsWithout, violation_sites}
use Rattle.document_checks.specs.declared.report.Report.{Report}

-- The breaches of some rule are warnings.
abbrev pub has_warnings : Asked → Bool
has_warnings asked = list_any (λ has. has) asked.warnings.has

-- how validation is called for these rules: for the first 1001 violations, in the documents that are judged
abbrev pub warning_options : Asked → List ℕ → ValidationOptions
warning_options asked numbers = record {
  selection = record { rules = asked.warnings; judged = judged_documents asked.judged numbers };
  most = 1001;
  steps = asked.steps;
}

-- A text that passes has no finding exactly if this holds of its number.
abbrev pub AreQuietIf : (ℕ → Type 0) → List Report → Type 0
AreQuietIf P reports =
    (text : ℕ) (r : Report) → text < length reports → (slice_index_or reports text r).passes ≡ true
    → ((slice_index_or reports text r).findings.items ≡ []) ↔ P text

-- Of the texts that pass, those have warnings in which a validation found violations.
pub record WarnByValidation (options : ValidationOptions) (documents : List Place) (numbers : List ℕ)
    (reports : List Report) : Type 0 where
  pub validation : Validation
  pub is : IsValidation options documents validation
  pub each : AreQuietIf (IsWithout numbers (violation_sites validation.violations.items)) reports

-- Which texts have warnings, where none has errors. These are the documents, and the numbers of their texts.
pub record WarnByDocuments (asked : Asked) (documents : List Place) (numbers : List ℕ) (reports : List Report)
    : Type 0 where
  pub rules : has_warnings asked ≡ true → WarnByValidation (warning_options asked numbers) documents numbers reports
  -- where no rule is only told: none
  pub none : has_warnings asked ≡ false → AreQuietIf (λ text. Unit {0}) reports

-- Which of the texts that pass have warnings.
pub record WarnEach (asked : Asked) (sources : List (List ℕ)) (reports : List Report) : Type 0 where
  -- where texts have errors: none
  pub errors : Any (HasErrors asked.limits) sources → AreQuietIf (λ text. Unit {0}) reports
  -- where there are texts, and none has errors
  pub documents : (documents : List Place) (numbers : List ℕ) → 0 < length sources
      → HaveDocuments asked.limits sources documents → HaveNumbers asked.limits 0 sources numbers
      → WarnByDocuments asked documents numbers reports
