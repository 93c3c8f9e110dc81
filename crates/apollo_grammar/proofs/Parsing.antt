-- A function that does what another one does, where running the other's rule is a run of its own.
use Rattle.std.proofs.lemmas.Result.{on_ok_weaker}
use Rattle.std.specs.Prelude.{Result}
use Rattle.parser_rules.specs.RuleLanguage.{Rule}
use Rattle.parser_rules.specs.Runs.{Runs}
use Rattle.parser_rules.specs.State.{State}
use Rattle.parser_state.specs.Parses.{Parses}

pub parsed_by : {T E : Type 0} {a b : Rule} {result : Result T E} {old new : State}
    → (Runs a old new → Runs b old new) → Parses a result old new → Parses b result old new
parsed_by {result = result} f p = record { runs = on_ok_weaker result f p.runs; budget = p.budget }
