use Rattle.std.proofs.Common.{◌+◌, ◌-◌, ◌≤◌}
use Rattle.apollo_tree.proofs.node.Table.first_after.Given as goal
use Rattle.apollo_tree.specs.Starts.{BeginBefore, BeginFrom}

abbrev pub invariant-loop-low : goal.invariant-loop-low
invariant-loop-low l =
    record {
      low : l.from ≤ l.low;
      order : l.low ≤ l.high;
      high : l.high ≤ l.to;
      before : BeginBefore (l.offset + 1) l.self l.from l.low;
      after : BeginFrom (l.offset + 1) l.self l.high l.to;
    }

abbrev pub decreases-loop-low : goal.decreases-loop-low
decreases-loop-low l = l.high - l.low
