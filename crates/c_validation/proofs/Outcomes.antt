-- What a call gives, by its status.
use Rattle.std.proofs.Common.{◌≡◌, ◌∙◌, ℕ, List, length, map, ap, [], ◌∷◌, option_map}
use Rattle.std.proofs.lemmas.List.{length-map}
use Rattle.apollo_tree.specs.References.{node_place}
use Rattle.apollo_parser.specs.Filled.{filled}
use Rattle.apollo_parser.specs.Parsed.{Parsed}
use Rattle.validation_names.specs.Definitions.{defined}
use Rattle.cost_limits.specs.Measures.{AreMeasures, IsMeasureError, Measure, everything}
use Rattle.cost_limits.specs.declared.measures.MeasureError.{MeasureError}
use Rattle.c_parsing.specs.Outcomes.{OK}
use Rattle.c_validation.proofs.Reports.{length-rows}
use Rattle.c_validation.specs.Outcomes.{IsDocumentParse, IsRefusal, IsReport, MeasureOutcome, ValidationOutcome}
use Rattle.c_validation.specs.Outcomes.{ViolationBuffers, counts_of, fault_counts, limit_of, no_measures}
use Rattle.c_validation.specs.Outcomes.{no_violations, root, violation_counts, measured}
use Rattle.c_validation.specs.Outcomes.{not_measurable, not_measured, not_validated, validated}
use Rattle.c_validation.specs.Rows.{messages, operation_row, violation_rows}
use Rattle.c_validation.specs.declared.rows.MeasureCounts.{MeasureCounts}
use Rattle.c_validation.specs.declared.rows.OperationRow.{OperationRow}
use Rattle.c_validation.specs.declared.rows.ViolationCounts.{ViolationCounts}
use Rattle.c_validation.specs.declared.rows.ViolationRow.{ViolationRow}
use Rattle.c_validation.specs.declared.violation_rows.Report.{Report}

pub no-validation : (source : List ℕ) (r k most steps status : ℕ) (before : ViolationBuffers)
    (counts : ViolationCounts)
    → counts ≡ no_violations status
    → IsRefusal source r k status → ValidationOutcome source r k most steps before before counts
no-validation source r k most steps status before counts is why = rw is (not_validated why)

pub of-report : (source : List ℕ) (r k most steps : ℕ) (parsed : Parsed) (report : Report) (before : ViolationBuffers)
    (rows : List ViolationRow) (said : List ℕ) (count bytes : ℕ) (counts : ViolationCounts)
    → IsDocumentParse source r k parsed
    → IsReport most (limit_of steps) (root parsed) report
    → rows ≡ filled before.violations report.rows.items
    → said ≡ filled before.messages report.messages.items → count ≡ length report.rows.items
    → bytes ≡ length report.messages.items
    → counts ≡ counts_of count bytes (option_map node_place report.undecided)
    → ValidationOutcome source r k most steps before (record { violations = rows; messages = said }) counts
of-report source r k most steps parsed report before rows said count bytes counts document is rs ms c b cs =
    let found = is.found in
    let filled_rows : rows ≡ filled before.violations (violation_rows 0 found.breaches) =
    rs ∙ ap (λ (xs : List ViolationRow). filled before.violations xs) is.rows in
    let filled_words : said ≡ filled before.messages (messages found.breaches) =
    ms ∙ ap (λ (xs : List ℕ). filled before.messages xs) is.messages in
    let counted : count ≡ length found.breaches = c ∙ ap length is.rows ∙ length-rows 0 found.breaches in
    let spoken : bytes ≡ length (messages found.breaches) = b ∙ ap length is.messages in
    let all : counts ≡ violation_counts found =
    cs ∙ ap (λ n. counts_of n bytes (option_map node_place report.undecided)) counted
    ∙ ap (λ n. counts_of (length found.breaches) n (option_map node_place report.undecided)) spoken
    ∙ ap (counts_of (length found.breaches) (length (messages found.breaches))) is.undecided in
    rw (filled_rows, filled_words, all) (validated document is.is)

pub no-measure : (source : List ℕ) (r k status : ℕ) (before : List OperationRow) (counts : MeasureCounts)
    → counts ≡ no_measures status
    → IsRefusal source r k status → MeasureOutcome source r k before before counts
no-measure source r k status before counts is why = rw is (not_measured why)

pub of-fault : (source : List ℕ) (r k : ℕ) (parsed : Parsed) (reason : MeasureError) (before : List OperationRow)
    (counts : MeasureCounts)
    → IsDocumentParse source r k parsed → IsMeasureError everything (defined (root parsed ∷ [])) reason
    → counts ≡ fault_counts reason
    → MeasureOutcome source r k before before counts
of-fault source r k parsed reason before counts document is c = rw c (not_measurable reason document is)

pub of-figures : (source : List ℕ) (r k : ℕ) (parsed : Parsed) (measures : List Measure)
    (before after : List OperationRow) (count : ℕ)
    → IsDocumentParse source r k parsed → AreMeasures everything (defined (root parsed ∷ [])) measures
    → after ≡ filled before (map operation_row measures)
    → count ≡ length (map operation_row measures)
    → MeasureOutcome source r k before after
    (record { operations = count; start = 0; end = 0; other_start = 0; other_end = 0; status = OK })
of-figures source r k parsed measures before after count document are a c =
    let counted : count ≡ length measures = c ∙ length-map measures operation_row in
    rw (a, counted) (measured document are)
