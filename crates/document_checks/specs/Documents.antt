-- Texts that are parsed, and reports on them, while `check` judges them.
use Rattle.std.specs.List.{filter}
use Rattle.std.specs.Prelude.{◌≡◌, ◌<◌, ◌⊎◌, ℕ, suc, true, false, List, [], ◌∷◌, All, length, map, slice_index_or}
use Rattle.std.specs.Prelude.{◌↔◌, ◌≢◌}
use Rattle.apollo_lexer.specs.declared.limits.Limits.{Limits}
use Rattle.apollo_tree.specs.Order.{Place}
use Rattle.apollo_parser.specs.Promise.{Promise}
use Rattle.formatter.specs.Within.{HasCommentsAlone}
use Rattle.validation_names.specs.Sites.{Located}
use Rattle.document_validation.specs.Validation.{IsValidation}
use Rattle.document_validation.specs.declared.validation.Validation.{Validation}
use Rattle.cost_limits.specs.Measures.{Measure}
use Rattle.document_checks.specs.Checking.{Asked, AreWithin, HaveMeasures, has_limits, is_chosen}
use Rattle.document_checks.specs.Findings.{AreWarnings, BeginWithError, HasErrors, IsReport}
use Rattle.document_checks.specs.Passing.{AreKept, HasWithin, IsThere, IsWithout, PassByDocuments, PassIf}
use Rattle.document_checks.specs.Passing.{violation_sites}
use Rattle.document_checks.specs.Warnings.{WarnByDocuments, has_warnings, warning_options}
use Rattle.document_checks.specs.declared.documents.Document.{Document}
use Rattle.document_checks.specs.declared.report.Finding.{Finding}
use Rattle.document_checks.specs.declared.report.Report.{Report}

-- ---- documents

abbrev pub root_of : Document → Place
root_of d = record { whole = d.tree.tree; index = 0 }

abbrev pub numbers_of : List Document → List ℕ
numbers_of documents = map (λ (d : Document). d.text) documents

-- the number of the text of the document with a number
abbrev pub text_of : List Document → ℕ → ℕ
text_of documents number = slice_index_or (numbers_of documents) number 0

-- The number of each document's text is below this number of texts.
abbrev pub AreInside : List Document → ℕ → Type 0
AreInside documents count = (number : ℕ) → text_of documents number < count

-- These are the texts that have a definition, in order. The first text has the number k.
abbrev pub AreDocuments : Limits → ℕ → List (List ℕ) → List Document → Type 0
AreDocuments limits k [] documents = documents ≡ []
AreDocuments limits k (source ∷ sources) documents =
    (HasCommentsAlone limits source × AreDocuments limits (suc k) sources documents)
    ⊎ ((¬ HasCommentsAlone limits source) × (document : Document) × (others : List Document)
    × (documents ≡ document ∷ others) × (document.text ≡ k)
    × Promise source limits.recursion limits.tokens document.tree × AreDocuments limits (suc k) sources others)

-- ---- reports

abbrev pub AllPass : List Report → Type 0
AllPass reports = All (λ (r : Report). r.passes ≡ true) reports

-- None of these findings is a warning.
abbrev pub AreErrors : List Finding → Type 0
AreErrors findings = All (λ (f : Finding). f.is_warning ≡ false) findings

-- nothing is found
abbrev pub IsClean : Report → Type 0
IsClean r = (r.passes ≡ true) × (r.findings.items ≡ [])

abbrev pub AreClean : List Report → Type 0
AreClean reports = All IsClean reports

-- A report that does not pass begins with an error, and one that passes has warnings alone.
pub record IsFounded (r : Report) : Type 0 where
  pub error : r.passes ≡ false → BeginWithError r.findings.items
  pub warnings : r.passes ≡ true → AreWarnings r.findings.items

-- Before the warnings are added, one that passes has no finding.
pub record IsUnwarned (r : Report) : Type 0 where
  pub error : r.passes ≡ false → BeginWithError r.findings.items
  pub nothing : r.passes ≡ true → r.findings.items ≡ []

-- The report does not pass exactly if its text has errors.
pub record IsErrorReport (limits : Limits) (source : List ℕ) (report : Report) : Type 0 where
  pub is_report : IsReport limits source report
  pub errors : report.passes ≡ false → HasErrors limits source
  pub nothing : report.passes ≡ true → report.findings.items ≡ []

abbrev pub AreErrorReports : Limits → List (List ℕ) → List Report → Type 0
AreErrorReports limits [] [] = Unit {0}
AreErrorReports limits (source ∷ sources) (report ∷ reports) =
    IsErrorReport limits source report × AreErrorReports limits sources reports
AreErrorReports limits sources reports = ⊥

-- What a parse of some texts gives.
pub record AreParsed (limits : Limits) (sources : List (List ℕ)) (documents : List Document) (reports : List Report)
    : Type 0 where
  pub are_documents : AreDocuments limits 0 sources documents
  pub are_reports : AreErrorReports limits sources reports

-- Reports of as many texts, each of which passes exactly if this holds of its number, and has an error if it does not.
pub record AreJudged (P : ℕ → Type 0) (old new : List Report) : Type 0 where
  pub count : length new ≡ length old
  pub founded : All IsUnwarned new
  pub each : PassIf P new

-- The same, where documents that keep the rules are judged by the limits.
pub record AreMeasured (asked : Asked) (documents : List Place) (numbers : List ℕ) (old new : List Report)
    : Type 0 where
  pub count : length new ≡ length old
  pub founded : All IsUnwarned new
  pub within : AllPass new ↔ AreWithin asked documents numbers
  pub limits : (measures : List Measure) → HaveMeasures asked documents numbers measures → IsThere asked measures
      → PassIf (HasWithin numbers asked.most (filter (is_chosen asked.operation) measures)) new
  pub missing : (measures : List Measure) → HaveMeasures asked documents numbers measures → ¬ IsThere asked measures
      → PassIf (λ text. text ≢ 0) new
  pub unmeasured : ((measures : List Measure) → ¬ HaveMeasures asked documents numbers measures)
      → has_limits asked ≡ false → PassIf (λ text. Unit {0}) new

-- And by the rules too. The warnings are not yet added.
pub record AreJudgedTogether (asked : Asked) (documents : List Place) (numbers : List ℕ) (old new : List Report)
    : Type 0 where
  pub count : length new ≡ length old
  pub founded : All IsUnwarned new
  pub sound : AllPass new ↔ (AreKept asked documents numbers × AreWithin asked documents numbers)
  pub each : PassByDocuments asked documents numbers new

-- Reports of as many texts, to which warnings at these places are added. Each passes as before. It has no finding
-- exactly if it had none, and none of the places is in its text.
pub record AreTold (numbers : List ℕ) (sites : List Located) (old new : List Report) : Type 0 where
  pub count : length new ≡ length old
  pub founded : All IsFounded old → All IsFounded new
  pub passes : (text : ℕ) (r : Report) → (slice_index_or new text r).passes ≡ (slice_index_or old text r).passes
  pub quiet : (text : ℕ) (r : Report) → text < length old → ((slice_index_or new text r).findings.items ≡ [])
      ↔ (((slice_index_or old text r).findings.items ≡ []) × IsWithout numbers sites text)

-- The same, where these are the places of the violations of the rules that are only told.
pub record AreWarned (asked : Asked) (documents : List Place) (numbers : List ℕ) (old new : List Report) : Type 0 where
  pub sites : List Located
  pub told : AreTold numbers sites old new
  pub rules : has_warnings asked ≡ true → (v : Validation)
      × IsValidation (warning_options asked numbers) documents v × (sites ≡ violation_sites v.violations.items)
  pub none : has_warnings asked ≡ false → sites ≡ []

-- Reports of documents that are judged, with the warnings.
pub record AreChecked (asked : Asked) (documents : List Place) (numbers : List ℕ) (old new : List Report)
    : Type 0 where
  pub count : length new ≡ length old
  pub founded : All IsFounded new
  pub sound : AllPass new ↔ (AreKept asked documents numbers × AreWithin asked documents numbers)
  pub each : PassByDocuments asked documents numbers new
  pub warned : WarnByDocuments asked documents numbers new
