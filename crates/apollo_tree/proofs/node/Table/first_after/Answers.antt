use Rattle.std.proofs.Common.{◌+◌, ◌-◌, ◌/◌, arith}
use Rattle.apollo_tree.proofs.Offsets.{rises}
use Rattle.apollo_tree.proofs.node.Table.first_after.Goals as goal

pub loop-low-preserved-then-record-offset : goal.loop-low-preserved-then-record-offset
loop-low-preserved-then-record-offset c =
    let middle = c.loop-low.low + (c.loop-low.high - c.loop-low.low) / 2 in
    record {
      low = omega arith;
      order = omega arith;
      high = c.loop-low.invariant.high;
      before = λ k a b. omega
          (arith, rises _ _ c.args.self.is_table k middle (omega arith) (omega arith), c.record.ensures.start);
      after = c.loop-low.invariant.after;
    }

pub loop-low-preserved : goal.loop-low-preserved
loop-low-preserved c =
    let middle = c.loop-low.low + (c.loop-low.high - c.loop-low.low) / 2 in
    record {
      low = c.loop-low.invariant.low;
      order = omega arith;
      high = omega arith;
      before = c.loop-low.invariant.before;
      after = λ k a b. omega (
        arith,
        rises _ _ c.args.self.is_table middle k (omega arith) (omega arith),
        c.record.ensures.start,
      );
    }
