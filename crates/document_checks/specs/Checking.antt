-- Which texts pass.
use Rattle.std.specs.List.{filter}
use Rattle.std.specs.Prelude.{◌≡◌, ◌≢◌, ◌⊎◌, ◌^◌, ◌-◌, ◌||◌, ℕ, suc, Bool, true, false, List, [], ◌∷◌, All, bytes_eq}
use Rattle.std.specs.Prelude.{Option, Some, None, is_some, length, map, nat_lt, option_map}
use denote.Ref.{Bor}
use Rattle.apollo_lexer.specs.declared.limits.Limits.{Limits}
use Rattle.apollo_tree.specs.Order.{Place}
use Rattle.apollo_parser.specs.Parsed.{Parsed}
use Rattle.apollo_parser.specs.Promise.{Promise}
use Rattle.formatter.specs.Within.{HasCommentsAlone}
use Rattle.validation_names.specs.Definitions.{defined, operation_name}
use Rattle.validation_names.specs.Names.{Name}
use Rattle.validation_rules.specs.declared.selection.RuleSet.{RuleSet}
use Rattle.validation_rules.specs.declared.selection.Selection.{Selection}
use Rattle.document_validation.specs.Validation.{AreDecided, AreValidIn}
use Rattle.cost_figures.specs.declared.figures.Figures.{Figures}
use Rattle.cost_limits.specs.Limits.{IsWithin, exceeded_by}
use Rattle.cost_limits.specs.Measures.{Measure, AreMeasures}
use Rattle.cost_limits.specs.declared.introspection.Introspection.{Introspection}
use Rattle.cost_limits.specs.declared.measures.MeasureOptions.{MeasureOptions}
use Rattle.document_checks.specs.Schemas.{AreValidBySchema, documents_before}
use Rattle.document_checks.specs.declared.report.Checks.{Checks}

-- What texts are checked against.
pub record Asked : Type 0 where
  -- the limits of the parser
  pub limits : Limits
  -- the greatest figures that an operation may have, and whether the fields count that introspect the schema
  pub most : Figures
  pub introspection : Introspection
  -- the name of the operation that has to be within them, if it is not all of them
  pub operation : Option Name
  -- How many of the texts are judged, from the first on; without a number, all are. The others are only known.
  pub judged : Option ℕ
  -- How many of the texts, from the first on, are those of a schema. Without a number, there is no schema.
  pub schema : Option ℕ
  -- the rules that the documents have to keep, and others, whose breaches are warnings
  pub rules : RuleSet
  pub warnings : RuleSet
  -- how many steps validation may take; without a number, as many as it takes
  pub steps : Option ℕ

abbrev pub as_asked : Checks → Asked
as_asked checks = record {
  limits = checks.limits;
  most = checks.most;
  introspection = checks.introspection;
  operation = option_map (λ (name : Bor (List ℕ)). name.now) checks.operation;
  judged = checks.judged;
  schema = checks.schema;
  rules = checks.rules;
  warnings = checks.warnings;
  steps = checks.steps;
}

abbrev pub texts_of : List (Bor (List ℕ)) → List (List ℕ)
texts_of sources = map (λ source. source.now) sources

-- ---- texts and their documents

-- A text is a document within both limits, and this is the root of its tree.
pub record IsDocument (limits : Limits) (source : List ℕ) (document : Place) : Type 0 where
  -- its parse: the law `one_parse` says that there is no other
  pub parsed : Parsed
  pub promise : Promise source limits.recursion limits.tokens parsed
  -- it is a document within both limits, as `Promise` has it
  pub no_errors : parsed.errors ≡ []
  pub root : document ≡ record { whole = parsed.tree; index = 0 }

-- Each text is a document, and these are their roots in order; but a text without a definition has none.
abbrev pub HaveDocuments : Limits → List (List ℕ) → List Place → Type 0
HaveDocuments limits [] documents = documents ≡ []
HaveDocuments limits (source ∷ sources) documents =
    (HasCommentsAlone limits source × HaveDocuments limits sources documents)
    ⊎ ((document : Place) × (others : List Place) × IsDocument limits source document
    × (documents ≡ document ∷ others) × HaveDocuments limits sources others)

-- These are the numbers of the texts that have a definition. The first text has the number k.
abbrev pub HaveNumbers : Limits → ℕ → List (List ℕ) → List ℕ → Type 0
HaveNumbers limits k [] numbers = numbers ≡ []
HaveNumbers limits k (source ∷ sources) numbers =
    (HasCommentsAlone limits source × HaveNumbers limits (suc k) sources numbers)
    ⊎ ((¬ HasCommentsAlone limits source) × (others : List ℕ) × (numbers ≡ k ∷ others)
    × HaveNumbers limits (suc k) sources others)

-- How many documents are judged, from the first on: those whose texts are. These are the numbers of their texts.
abbrev pub judged_documents : Option ℕ → List ℕ → Option ℕ
judged_documents None numbers = None
judged_documents (Some judged) numbers = Some (documents_before judged numbers)

-- ---- limits

abbrev pub has_name : Name → Option Name → Bool
has_name wanted None = false
has_name wanted (Some name) = bytes_eq name wanted

-- the operation is wanted
abbrev pub is_chosen : Option Name → Measure → Bool
is_chosen None m = true
is_chosen (Some wanted) m = has_name wanted (operation_name m.operation)

-- The operations that are wanted are within the limits, and if one is named, it is there.
pub record IsChosenWithin (asked : Asked) (measures : List Measure) : Type 0 where
  pub within : All (IsWithin asked.most) (filter (is_chosen asked.operation) measures)
  pub there : asked.operation ≢ None → filter (is_chosen asked.operation) measures ≢ []

-- the greatest figures that there are
abbrev pub greatest : Figures
greatest = record {
  depth = 2 ^ 64 - 1;
  fields = 2 ^ 64 - 1;
  root_fields = 2 ^ 64 - 1;
  aliases = 2 ^ 64 - 1;
  directives = 2 ^ 64 - 1;
  height = 2 ^ 64 - 1;
  distinct_root_fields = 2 ^ 64 - 1;
}

-- Something is asked of the operations: one is named, or the greatest figures exceed a limit.
abbrev pub has_limits : Asked → Bool
has_limits asked = is_some asked.operation || is_some (exceeded_by asked.most greatest)

-- what is measured: the operations of the documents that are judged
abbrev pub measuring : Asked → List ℕ → MeasureOptions
measuring asked numbers =
    record { introspection = asked.introspection; measured = judged_documents asked.judged numbers }

-- these are the figures of the operations that are judged
abbrev pub HaveMeasures : Asked → List Place → List ℕ → List Measure → Type 0
HaveMeasures asked documents numbers measures = AreMeasures (measuring asked numbers) (defined documents) measures

-- The operations that are judged are within the limits. Only where nothing is asked of them they need no figures, as
-- where one spreads a fragment that is not there, and the rule against it is left out.
pub record AreWithin (asked : Asked) (documents : List Place) (numbers : List ℕ) : Type 0 where
  pub figures : has_limits asked ≡ true → (measures : List Measure) × HaveMeasures asked documents numbers measures
  pub chosen : (measures : List Measure) → HaveMeasures asked documents numbers measures → IsChosenWithin asked measures

-- ---- texts together

-- which breaches keep texts from passing: those of the chosen rules, in the documents that are judged
abbrev pub selection : Asked → List ℕ → Selection
selection asked numbers = record { rules = asked.rules; judged = judged_documents asked.judged numbers }

-- The documents of some texts keep the rules together, which is decided within the steps, and those that need a schema,
-- if there is one. And their operations are within the limits.
pub record AreSound (asked : Asked) (sources : List (List ℕ)) : Type 0 where
  pub documents : List Place
  -- the numbers of their texts
  pub numbers : List ℕ
  pub are_documents : HaveDocuments asked.limits sources documents
  pub are_numbers : HaveNumbers asked.limits 0 sources numbers
  pub valid : AreValidIn (selection asked numbers) documents
  pub decided : AreDecided asked.steps documents
  pub typed : AreValidBySchema asked.schema (judged_documents asked.judged numbers) documents numbers
  pub within : AreWithin asked documents numbers

-- Some texts pass together. Where there is no text, nothing is wrong.
abbrev pub PassTogether : Asked → List (List ℕ) → Type 0
PassTogether asked [] = Unit {0}
PassTogether asked (source ∷ sources) = AreSound asked (source ∷ sources)
