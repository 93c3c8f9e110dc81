-- What each grammar function promises.
use Rattle.std.specs.Prelude.{◌≡◌, Result, OnOk}
use Rattle.parser_rules.specs.RuleLanguage.{Rule}
use Rattle.parser_rules.specs.Runs.{Runs}
use Rattle.parser_rules.specs.State.{State}

-- The function runs the rule, unless memory is refused; and whatever it answers, as many items may be cut as before.
pub record Parses {T E : Type 0} (rule : Rule) (result : Result T E) (old new : State) : Type 0 where
  pub runs : OnOk result (Runs rule old new)
  pub budget : new.budget ≡ old.budget
