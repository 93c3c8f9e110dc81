-- The status that the program ends with.
use Rattle.std.specs.Prelude.{ℕ, Result, Ok, Err}
use Rattle.gqlfmt_run.specs.declared.settlement.Settled.{Settled}
use Rattle.gqlfmt_run.specs.declared.settlement.Settled.TheVariants.{Done, Found, Refused}

-- 0 where a text has the layout, 1 where it was found to have another one, 2 where it is refused or was not formatted
-- for another reason
abbrev pub status_of : {E : Type 0} → Result Settled E → ℕ
status_of (Ok Done) = 0
status_of (Ok Found) = 1
status_of (Ok Refused) = 2
status_of (Err fault) = 2
