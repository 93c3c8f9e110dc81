use Rattle.rpc_messages.proofs.Nested.{one_more}
use Rattle.rpc_messages.proofs.nesting.Nesting.take_all.Goals as goal

pub loop-piece-preserved : goal.loop-piece-preserved
loop-piece-preserved c = one_more _ _ _ _ _ _ c.loop-piece-test.true c.loop-piece.invariant c.in_ok-take.ensures
