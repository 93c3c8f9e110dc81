-- What each call gives: for the statuses OK and UNDECIDED what it wrote, and for each other status why, and that it
-- wrote nothing. A call ends with no other status than those of the cases; that memory was refused, `NO_MEMORY`, has no
-- further reason.
use Rattle.std.specs.Prelude.{◌≡◌, ◌<◌, ◌≤◌, ◌-◌, ◌^◌, ◌==◌, ◌↔◌, ℕ, List, [], ◌∷◌, length, map, if◌then◌else◌}
use Rattle.std.specs.Prelude.{Option, Some, None, option_map}
use Rattle.std.specs.Str.{IsUtf8}
use Rattle.apollo_tree.specs.Order.{Place, range_at}
use Rattle.apollo_tree.specs.References.{node_place}
use Rattle.apollo_parser.specs.Filled.{filled}
use Rattle.apollo_parser.specs.Parsed.{Parsed}
use Rattle.formatter.specs.Formatted.{IsDocument}
use Rattle.validation_names.specs.Definitions.{as_defined, defined}
use Rattle.validation_rules.specs.Violations.{Breach}
use Rattle.document_validation.specs.Breaches as validation
use Rattle.document_validation.specs.Breaches.{AreValid, breaches_before}
use Rattle.document_validation.specs.Validation.{AreDecided, ValidationEndsAt, operation_site}
use Rattle.cost_limits.specs.Measures.{AreMeasures, IsMeasureError, Measure, everything}
use Rattle.cost_limits.specs.declared.measures.MeasureError.{MeasureError}
use Rattle.cost_limits.specs.declared.measures.MeasureError.TheVariants as error
use Rattle.c_parsing.specs.Outcomes.{IsParse, OK, NOT_UTF8, NO_MEMORY, NOT_A_DOCUMENT}
use Rattle.c_validation.specs.Rows.{messages, operation_row, range_of, violation_rows}
use Rattle.c_validation.specs.declared.rows.MeasureCounts.{MeasureCounts}
use Rattle.c_validation.specs.declared.rows.OperationRow.{OperationRow}
use Rattle.c_validation.specs.declared.rows.ViolationCounts.{ViolationCounts}
use Rattle.c_validation.specs.declared.rows.ViolationRow.{ViolationRow}
use Rattle.c_validation.specs.declared.violation_rows.Report.{Report}

-- ---- statuses, beside those of `c_parsing`

abbrev pub SAME_NAME : ℕ
SAME_NAME = 6

abbrev pub CYCLE : ℕ
CYCLE = 7

abbrev pub UNDEFINED : ℕ
UNDEFINED = 8

abbrev pub UNDECIDED : ℕ
UNDECIDED = 10

-- ---- a text as a document

-- The text is a document within both limits, and this is its parse.
pub record IsDocumentParse (source : List ℕ) (max_depth max_items : ℕ) (parsed : Parsed) : Type 0 where
  pub parse : IsParse source max_depth max_items parsed
  pub no_errors : parsed.errors ≡ []

-- Why a text is refused, by the status of the call.
pub data IsRefusal (source : List ℕ) (max_depth max_items : ℕ) : ℕ → Type 0 where
  not_utf8 : ¬ IsUtf8 source → IsRefusal source max_depth max_items NOT_UTF8
  not_a_document : ¬ IsDocument source max_depth max_items → IsRefusal source max_depth max_items NOT_A_DOCUMENT
  no_memory : IsRefusal source max_depth max_items NO_MEMORY

-- The root of a tree.
abbrev pub root : Parsed → Place
root parsed = record { whole = parsed.tree; index = 0 }

-- ---- validation

-- What is found: breaches, and the operation before which validation ended, if it did.
pub record Found : Type 0 where
  pub breaches : List Breach
  pub undecided : Option Place

-- the operation of a document that has this number among its operations
abbrev pub operation : Place → ℕ → Place
operation document number = (operation_site (document ∷ []) number).place

-- This is found in a document, by the root of its tree, up to a bound and within a limit of steps.
pub record IsFound (most : ℕ) (limit : Option ℕ) (document : Place) (found : Found) : Type 0 where
  -- the number of the operation before which the steps are used up, or none
  pub end : Option ℕ
  pub ends : ValidationEndsAt limit (document ∷ []) end
  -- the first breaches, up to the bound, in the order of the text: on variables, those of the operations before it
  pub exact : validation.AreFound most (breaches_before end (document ∷ [])) found.breaches
  -- that operation, unless the list is full
  pub undecided : length found.breaches < most → found.undecided ≡ option_map (operation document) end
  pub full : most ≤ length found.breaches → found.undecided ≡ None
  -- There are neither breaches nor such an operation exactly if the document keeps all rules and the steps suffice.
  pub valid : 0 < most → ((found.breaches ≡ []) × (found.undecided ≡ None))
      ↔ (AreValid (document ∷ []) × AreDecided limit (document ∷ []))

-- The report has the rows and the messages of the breaches, and the operation, that are found.
pub record IsReport (most : ℕ) (limit : Option ℕ) (document : Place) (report : Report) : Type 0 where
  pub found : Found
  pub is : IsFound most limit document found
  pub rows : report.rows.items ≡ violation_rows 0 found.breaches
  pub messages : report.messages.items ≡ messages found.breaches
  pub undecided : option_map node_place report.undecided ≡ found.undecided

-- a number of steps as a limit; the greatest number is no limit
abbrev pub limit_of : ℕ → Option ℕ
limit_of steps = if steps == 2 ^ 64 - 1 then None else Some steps

-- The buffers that violations are written to.
pub record ViolationBuffers : Type 0 where
  pub violations : List ViolationRow
  pub messages : List ℕ

-- The buffers after violations were written, each as far as there is room.
abbrev pub violations_written : ViolationBuffers → List Breach → ViolationBuffers
violations_written room breaches = record {
  violations = filled room.violations (violation_rows 0 breaches);
  messages = filled room.messages (messages breaches);
}

-- the status of a call that was not refused
abbrev pub end_status : Option Place → ℕ
end_status None = OK
end_status (Some operation) = UNDECIDED

-- the counts for a number of violations, bytes of messages, and the operation before which validation ended
abbrev pub counts_of : ℕ → ℕ → Option Place → ViolationCounts
counts_of violations bytes undecided = record {
  violations = violations;
  message_bytes = bytes;
  undecided_start = (range_of undecided).0;
  undecided_end = (range_of undecided).1;
  status = end_status undecided;
}

abbrev pub violation_counts : Found → ViolationCounts
violation_counts found = counts_of (length found.breaches) (length (messages found.breaches)) found.undecided

-- The counts of a call that was refused.
abbrev pub no_violations : ℕ → ViolationCounts
no_violations status =
    record { violations = 0; message_bytes = 0; undecided_start = 0; undecided_end = 0; status = status }

-- A call with this status was not refused.
pub data IsValidated (status : ℕ) : Type 0 where
  whole : status ≡ OK → IsValidated status
  in_part : status ≡ UNDECIDED → IsValidated status

-- What validation gives, from the buffers before it, the buffers after it, and the counts that it answers.
pub data ValidationOutcome (source : List ℕ) (max_depth max_items most steps : ℕ)
    (before : ViolationBuffers) : ViolationBuffers → ViolationCounts → Type 0 where
  -- the text is a document within both limits, and the buffers and the counts have what is found in it
  validated :
      {parsed : Parsed} {found : Found}
      → IsDocumentParse source max_depth max_items parsed
      → IsFound most (limit_of steps) (root parsed) found
      → ValidationOutcome source max_depth max_items most steps before (violations_written before found.breaches)
      (violation_counts found)
  -- nothing was written
  not_validated :
      {status : ℕ}
      → IsRefusal source max_depth max_items status
      → ValidationOutcome source max_depth max_items most steps before before (no_violations status)

-- ---- figures

-- The counts of a call that was refused.
abbrev pub no_measures : ℕ → MeasureCounts
no_measures status = record { operations = 0; start = 0; end = 0; other_start = 0; other_end = 0; status = status }

-- The counts of a call that gave figures.
abbrev pub measure_counts : List Measure → MeasureCounts
measure_counts measures =
    record { operations = length measures; start = 0; end = 0; other_start = 0; other_end = 0; status = OK }

-- The counts of a call that found a fault at the first range, where the other fragment of the name is at the second
-- one.
abbrev pub fault_at : ℕ → ℕ × ℕ → ℕ × ℕ → MeasureCounts
fault_at status at other =
    record { operations = 0; start = at.0; end = at.1; other_start = other.0; other_end = other.1; status = status }

abbrev pub fault_counts : MeasureError → MeasureCounts
fault_counts (error.SameName first second) =
    fault_at SAME_NAME (range_at (as_defined second).site.place) (range_at (as_defined first).site.place)
fault_counts (error.Cycle span) = fault_at CYCLE (span.start, span.end) (0, 0)
fault_counts (error.Undefined span) = fault_at UNDEFINED (span.start, span.end) (0, 0)
fault_counts error.Memory = no_measures NO_MEMORY

-- What a measurement gives, from the buffer before it, the buffer after it, and the counts that it answers.
pub data MeasureOutcome (source : List ℕ) (max_depth max_items : ℕ) (before : List OperationRow) : List OperationRow
    → MeasureCounts → Type 0 where
  -- the text is a document within both limits, and the buffer and the counts are those of the figures of its operations
  measured :
      {parsed : Parsed} {measures : List Measure}
      → IsDocumentParse source max_depth max_items parsed
      → AreMeasures everything (defined (root parsed ∷ [])) measures
      → MeasureOutcome source max_depth max_items before (filled before (map operation_row measures))
      (measure_counts measures)
  -- it is one, and its operations have no figures for this reason; nothing was written
  not_measurable :
      {parsed : Parsed} (reason : MeasureError)
      → IsDocumentParse source max_depth max_items parsed
      → IsMeasureError everything (defined (root parsed ∷ [])) reason
      → MeasureOutcome source max_depth max_items before before (fault_counts reason)
  -- nothing was written
  not_measured :
      {status : ℕ}
      → IsRefusal source max_depth max_items status
      → MeasureOutcome source max_depth max_items before before (no_measures status)
