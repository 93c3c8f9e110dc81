use Rattle.std.proofs.Common.{◌≡◌, ◌⊎◌, ℕ, ◌<◌, ◌≤◌, false, get_or}
use Rattle.ignore_rules.proofs.fit_table.clear.Given as goal
use Rattle.ignore_rules.specs.Tables.{IsWithin}

abbrev pub invariant-loop-index : goal.invariant-loop-index
invariant-loop-index l =
    IsWithin l.fn.window l.initial.table → (k : ℕ) → (k < l.index) ⊎ (l.fn.window.end ≤ k)
    → get_or l.table k false ≡ false
