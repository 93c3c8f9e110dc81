-- A second call, with the room that the first one counted.
use Rattle.std.proofs.Common.{◌≡◌, ◌∙◌, ℕ, suc, List, [], ◌∷◌, length, map, refl, sym, ap, arith}
use Rattle.std.specs.Prelude.{filter}
use Rattle.apollo_parser.proofs.OneParse.{one-parse}
use Rattle.apollo_parser.specs.Filled.{filled}
use Rattle.apollo_parser.specs.Parsed.{Parsed}
use Rattle.validation_names.specs.Definitions.{defined}
use Rattle.cost_limits.specs.Measures.{AreMeasures, Measure, everything, is_operation}
use Rattle.cost_limits.specs.declared.measures.MeasureError.{MeasureError}
use Rattle.cost_limits.specs.declared.measures.MeasureError.TheVariants as error
use Rattle.c_parsing.proofs.Again.{filled-whole}
use Rattle.c_parsing.specs.Outcomes.{OK}
use Rattle.c_validation.specs.Again.{HoldMeasures}
use Rattle.c_validation.specs.Outcomes.{IsDocumentParse, IsRefusal, MeasureOutcome, fault_counts, measure_counts, root}
use Rattle.c_validation.specs.Outcomes.{measured, not_measurable, not_measured, no_memory, not_a_document, not_utf8}
use Rattle.c_validation.specs.Rows.{operation_row}
use Rattle.c_validation.specs.declared.rows.MeasureCounts.{MeasureCounts}
use Rattle.c_validation.specs.declared.rows.OperationRow.{OperationRow}

no-fault : (reason : MeasureError) → (fault_counts reason).status ≡ OK → ⊥
no-fault (error.SameName first second) is = omega (arith, is)
no-fault (error.Cycle span) is = omega (arith, is)
no-fault (error.Undefined span) is = omega (arith, is)
no-fault error.Memory is = omega (arith, is)

pub no-refusal : {source : List ℕ} {r k status : ℕ} → IsRefusal source r k status → status ≡ OK → ⊥
no-refusal (not_utf8 why) is = omega (arith, is)
no-refusal (not_a_document why) is = omega (arith, is)
no-refusal no_memory is = omega (arith, is)

-- figures were written
record Wrote (source : List ℕ) (r k : ℕ) (before after : List OperationRow) (counts : MeasureCounts) : Type 0 where
  parsed : Parsed
  parse : IsDocumentParse source r k parsed
  measures : List Measure
  are_measures : AreMeasures everything (defined (root parsed ∷ [])) measures
  written : after ≡ filled before (map operation_row measures)
  counted : counts ≡ measure_counts measures

wrote : {source : List ℕ} {r k : ℕ} {before after : List OperationRow} {counts : MeasureCounts}
    → MeasureOutcome source r k before after counts
    → counts.status ≡ OK → Wrote source r k before after counts
wrote (measured {parsed = parsed} {measures = measures} parse are) ok =
    record { parsed = parsed; parse = parse; measures = measures; are_measures = are; written = refl; counted = refl }
wrote (not_measurable reason parse is) ok = absurd (no-fault reason ok)
wrote (not_measured refused) ok = absurd (no-refusal refused ok)

length-map : {A B : Type 0} (f : A → B) (xs : List A) → length (map f xs) ≡ length xs
length-map f [] = refl
length-map f (x ∷ xs) = ap suc (length-map f xs)

-- a document has as many figures as operations
operations-of : (parsed : Parsed) (measures : List Measure)
    → AreMeasures everything (defined (root parsed ∷ [])) measures
    → length measures ≡ length (filter is_operation (defined (root parsed ∷ [])))
operations-of parsed measures are =
    sym (length-map (λ (m : Measure). m.operation) measures) ∙ ap length are.operations_are

pub measures-again : (source : List ℕ) (r k : ℕ) (before after room filled_room : List OperationRow)
    (first second : MeasureCounts)
    → MeasureOutcome source r k before after first → first.status ≡ OK
    → MeasureOutcome source r k room filled_room second → second.status ≡ OK
    → (second ≡ first) × (length room ≡ first.operations → HoldMeasures source r k filled_room)
measures-again source r k before after room filled_room first second one ok two ok' =
    let f = wrote one ok in
    let s = wrote two ok' in
    let same : f.parsed ≡ s.parsed =
    one-parse f.parsed s.parsed f.parse.parse.promise.by_rules s.parse.parse.promise.by_rules in
    let number : length f.measures ≡ length s.measures = operations-of f.parsed f.measures f.are_measures
    ∙ ap (λ (p : Parsed). length (filter is_operation (defined (root p ∷ [])))) same
    ∙ sym (operations-of s.parsed s.measures s.are_measures) in (
      s.counted ∙ ap (λ n. record { operations = n; start = 0; end = 0; other_start = 0; other_end = 0; status = OK })
          (sym number) ∙ sym f.counted,
      λ asked. record {
        parsed = s.parsed;
        parse = s.parse;
        measures = s.measures;
        are_measures = s.are_measures;
        is = s.written ∙ filled-whole room (map operation_row s.measures)
            (asked ∙ ap (λ (c : MeasureCounts). c.operations) f.counted ∙ number
            ∙ sym (length-map operation_row s.measures));
      },
    )
