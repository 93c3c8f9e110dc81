use Rattle.std.proofs.Common.{◌-◌, ◌≤◌, length}
use Rattle.type_system.proofs.parts.empty_rows.Given as goal
use Rattle.type_system.specs.Rows.{AreRows, nothing}

abbrev pub invariant-filling : goal.invariant-filling
invariant-filling l = record {
  few : length l.rows.items ≤ l.count;
  are : AreRows (λ _. nothing) (length l.rows.items) l.rows.items;
}

abbrev pub decreases-filling : goal.decreases-filling
decreases-filling l = l.count - length l.rows.items
