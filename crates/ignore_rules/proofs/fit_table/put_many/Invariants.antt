use Rattle.std.proofs.Common.{ℕ, Bool, List}
use Rattle.ignore_rules.proofs.TableLemmas.{IsDown}
use Rattle.ignore_rules.proofs.fit_table.put_many.Given as goal
use Rattle.ignore_rules.specs.Fits.{after_bytes}
use Rattle.ignore_rules.specs.Tables.{IsWindow}

abbrev pub invariant-loop-index : goal.invariant-loop-index
invariant-loop-index l =
    (test : List ℕ → Bool) → IsWindow test l.path l.fn.window l.initial.table
    → IsDown (after_bytes test) l.path l.index l.initial.table l.table
