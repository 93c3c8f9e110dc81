use Rattle.std.proofs.Common.{arith}
use Rattle.apollo_lexer.proofs.LaneRuns.{sixteen-more, sixteen-end}
use Rattle.apollo_lexer.proofs.classes.long_run_len.Goals as goal

pub loop-n-preserved : goal.loop-n-preserved
loop-n-preserved g c =
    record {
      within = omega arith;
      so_far = sixteen-more g.C.ByteClass.class c.args.bytes.now c.loop-n.n c.lanes-k.result
          (omega arith) c.loop-n.invariant.so_far c.lanes-k.ensures (omega arith);
    }

pub returns-then-k-lt-LANES-clause-value : goal.returns-then-k-lt-LANES-clause-value
returns-then-k-lt-LANES-clause-value g c =
    sixteen-end g.C.ByteClass.class c.args.bytes.now c.loop-n.n c.lanes-k.result (omega arith)
    c.loop-n.invariant.so_far c.lanes-k.ensures
    (omega arith)
