use Rattle.std.proofs.Common.{arith}
use Rattle.apollo_lexer.proofs.LaneRuns.{ends-within, goes-on}
use Rattle.apollo_lexer.proofs.classes.short_run_len.Goals as goal

pub returns-then-n-lt-LANES-clause-value : goal.returns-then-n-lt-LANES-clause-value
returns-then-n-lt-LANES-clause-value g c =
    ends-within g.C.ByteClass.class c.args.bytes.now 16 _ (omega arith) c.lanes-n.ensures (omega arith)

pub returns-clause-value : goal.returns-clause-value
returns-clause-value g c =
    goes-on g.C.ByteClass.class c.args.bytes.now 16 _ _ (omega arith) c.lanes-n.ensures (omega arith)
    c.len_by_bytes-2.ensures.value
