-- Which of the texts that are judged together pass.
use Rattle.std.specs.List.{Any, filter}
use Rattle.std.specs.Prelude.{◌≡◌, ◌≢◌, ◌<◌, ◌↔◌, ℕ, true, false, List, [], ◌∷◌, ◌++◌, All, length, map, None}
use Rattle.std.specs.Prelude.{Option, Some, option_map, slice_index_or}
use Rattle.apollo_tree.specs.Order.{Place}
use Rattle.validation_names.specs.Sites.{Located, as_located}
use Rattle.validation_rules.specs.declared.violations.Violation.{Violation}
use Rattle.document_validation.specs.Validation.{AreDecided, AreValidIn, IsValidation}
use Rattle.document_validation.specs.declared.validation.Validation.{Validation}
use Rattle.document_validation.specs.declared.validation.ValidationOptions.{ValidationOptions}
use Rattle.cost_figures.specs.declared.figures.Figures.{Figures}
use Rattle.cost_limits.specs.Limits.{IsWithin}
use Rattle.cost_limits.specs.Measures.{Measure}
use Rattle.document_checks.specs.Checking.{Asked, HaveDocuments, HaveMeasures, HaveNumbers, has_limits, is_chosen}
use Rattle.document_checks.specs.Checking.{judged_documents, selection}
use Rattle.document_checks.specs.Findings.{HasErrors}
use Rattle.document_checks.specs.Schemas.{AreSchemaSites, AreValidBySchema}
use Rattle.document_checks.specs.declared.report.Report.{Report}

-- Each report passes exactly if this holds of the number of its text.
abbrev pub PassIf : (ℕ → Type 0) → List Report → Type 0
PassIf P reports =
    (text : ℕ) (r : Report) → text < length reports → ((slice_index_or reports text r).passes ≡ true) ↔ P text

-- the text in which something is, where these are the numbers of the texts of the documents
abbrev pub text_number : List ℕ → Located → ℕ
text_number numbers site = slice_index_or numbers site.document 0

-- ---- what keeps a text from passing

-- None of these places is in the text.
abbrev pub IsWithout : List ℕ → List Located → ℕ → Type 0
IsWithout numbers sites text = All (λ (site : Located). text_number numbers site ≢ text) sites

-- Those of these operations that are in the text are within the limits.
abbrev pub HasWithin : List ℕ → Figures → List Measure → ℕ → Type 0
HasWithin numbers most measures text =
    All (λ (m : Measure). text_number numbers m.operation.site ≡ text → IsWithin most m) measures

-- If an operation is named, it is among these.
abbrev pub IsThere : Asked → List Measure → Type 0
IsThere asked measures = asked.operation ≢ None → filter (is_chosen asked.operation) measures ≢ []

-- ---- validation

-- The documents keep the rules, that is decided, and they keep the rules that need a schema, if there is one.
abbrev pub AreKept : Asked → List Place → List ℕ → Type 0
AreKept asked documents numbers =
    AreValidIn (selection asked numbers) documents × AreDecided asked.steps documents
    × AreValidBySchema asked.schema (judged_documents asked.judged numbers) documents numbers

-- how validation is called: for the first 1001 violations
abbrev pub validation_options : Asked → List ℕ → ValidationOptions
validation_options asked numbers =
    record { selection = selection asked numbers; most = 1001; steps = asked.steps }

abbrev pub violation_sites : List Violation → List Located
violation_sites violations = map (λ v. as_located v.site) violations

abbrev pub undecided_sites : Option Located → List Located
undecided_sites None = []
undecided_sites (Some site) = site ∷ []

-- the places of the violations that a validation found, and of the operation before which it ended
abbrev pub found_sites : Validation → List Located
found_sites validation =
    violation_sites validation.violations.items
    ++ undecided_sites (option_map as_located validation.undecided)

-- The texts pass in which nothing is found: neither by a validation nor by the rules that need a schema.
pub record PassByRules (asked : Asked) (documents : List Place) (numbers : List ℕ) (reports : List Report)
    : Type 0 where
  pub validation : Validation
  pub is : IsValidation (validation_options asked numbers) documents validation
  pub sites : List Located
  pub are : AreSchemaSites asked.schema (judged_documents asked.judged numbers) documents numbers sites
  pub each : PassIf (IsWithout numbers (found_sites validation ++ sites)) reports

-- ---- all texts

-- Which texts pass, where none has errors. These are the documents, and the numbers of their texts.
pub record PassByDocuments (asked : Asked) (documents : List Place) (numbers : List ℕ) (reports : List Report)
    : Type 0 where
  -- where rules are broken, or that is not decided: each text in which nothing is found
  pub rules : ¬ AreKept asked documents numbers → PassByRules asked documents numbers reports
  -- where none is broken: each text whose operations are within the limits, of those that are judged and wanted
  pub limits : (measures : List Measure) → AreKept asked documents numbers
      → HaveMeasures asked documents numbers measures → IsThere asked measures
      → PassIf (HasWithin numbers asked.most (filter (is_chosen asked.operation) measures)) reports
  -- where the operation that is named is not there: all texts but the first
  pub missing : (measures : List Measure) → AreKept asked documents numbers
      → HaveMeasures asked documents numbers measures
      → ¬ IsThere asked measures → PassIf (λ text. text ≢ 0) reports
  -- where the operations have no figures, and nothing is asked of them: all
  pub unmeasured : AreKept asked documents numbers
      → ((measures : List Measure) → ¬ HaveMeasures asked documents numbers measures)
      → has_limits asked ≡ false → PassIf (λ text. Unit {0}) reports

-- Which texts pass.
pub record PassEach (asked : Asked) (sources : List (List ℕ)) (reports : List Report) : Type 0 where
  -- where texts have errors: all others
  pub errors : Any (HasErrors asked.limits) sources
      → PassIf (λ text. ¬ HasErrors asked.limits (slice_index_or sources text [])) reports
  -- where there are texts, and none has errors
  pub documents : (documents : List Place) (numbers : List ℕ) → 0 < length sources
      → HaveDocuments asked.limits sources documents → HaveNumbers asked.limits 0 sources numbers
      → PassByDocuments asked documents numbers reports
