use Rattle.std.proofs.Common.{ℕ, Bool, List}
use Rattle.ignore_rules.proofs.TableLemmas.{IsUp}
use Rattle.ignore_rules.proofs.fit_table.put_byte.Given as goal
use Rattle.ignore_rules.specs.Fits.{after_byte, as_sign}
use Rattle.ignore_rules.specs.Tables.{IsWindow}

abbrev pub invariant-loop-index : goal.invariant-loop-index
invariant-loop-index g l =
    (test : List ℕ → Bool) → IsWindow test l.path l.fn.window l.initial.table
    → IsUp (after_byte (as_sign l.sign) test) l.path l.index l.initial.table l.table
