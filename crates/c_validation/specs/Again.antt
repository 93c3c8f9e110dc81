-- A second call, with the room that the first call counted.
use Rattle.std.specs.Prelude.{◌≡◌, ℕ, List, [], ◌∷◌, map}
use Rattle.apollo_parser.specs.Parsed.{Parsed}
use Rattle.validation_names.specs.Definitions.{defined}
use Rattle.cost_limits.specs.Measures.{AreMeasures, Measure, everything}
use Rattle.c_validation.specs.Outcomes.{Found, IsDocumentParse, IsFound, ViolationBuffers, limit_of, root}
use Rattle.c_validation.specs.Rows.{messages, operation_row, violation_rows}
use Rattle.c_validation.specs.declared.rows.OperationRow.{OperationRow}

-- The buffer holds all figures of the text's operations.
pub record HoldMeasures (source : List ℕ) (max_depth max_items : ℕ) (buffer : List OperationRow) : Type 0 where
  pub parsed : Parsed
  pub parse : IsDocumentParse source max_depth max_items parsed
  pub measures : List Measure
  pub are_measures : AreMeasures everything (defined (root parsed ∷ [])) measures
  pub is : buffer ≡ map operation_row measures

-- The buffers hold the violations that are found in the text, up to the bound and within the steps.
pub record HoldViolations (source : List ℕ) (max_depth max_items most steps : ℕ)
    (buffers : ViolationBuffers) : Type 0 where
  pub parsed : Parsed
  pub parse : IsDocumentParse source max_depth max_items parsed
  pub found : Found
  pub is : IsFound most (limit_of steps) (root parsed) found
  pub violations : buffers.violations ≡ violation_rows 0 found.breaches
  pub messages : buffers.messages ≡ messages found.breaches
