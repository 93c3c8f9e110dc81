use Rattle.std.proofs.Common.{◌≡◌, ℕ, ◌≤◌, false, get_or}
use Rattle.ignore_rules.proofs.fit_table.end_in.Given as goal
use Rattle.ignore_rules.specs.Tables.{IsWithin}

abbrev pub invariant-loop-index : goal.invariant-loop-index
invariant-loop-index l = (k : ℕ) → IsWithin l.window l.table → l.index ≤ k → get_or l.table k false ≡ false
