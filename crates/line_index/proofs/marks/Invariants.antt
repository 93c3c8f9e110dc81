use Rattle.std.proofs.Common.{◌≡◌, ℕ, ◌+◌, ◌*◌, ◌<◌, length, take, get_or}
use Rattle.std.specs.List.{sum_by}
use Rattle.line_index.proofs.marks.Given as goal
use Rattle.line_index.specs.Columns.{weight}

abbrev pub invariant-loop-mark : goal.invariant-loop-mark
invariant-loop-mark g l = record {
  count : length l.marks.items ≡ l.mark + 1;
  total : l.total ≡ sum_by (weight l.counted) (take (64 * l.mark) l.bytes);
  each : (i : ℕ) → i < length l.marks.items
      → get_or l.marks.items i 0 ≡ sum_by (weight l.counted) (take (64 * i) l.bytes);
}
