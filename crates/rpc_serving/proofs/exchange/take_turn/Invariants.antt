use Rattle.std.proofs.Common.{length}
use Rattle.rpc_messages.specs.Steps.{Takes}
use Rattle.rpc_serving.proofs.Turns.{LeadsTo}
use Rattle.rpc_serving.proofs.exchange.take_turn.Given as goal

abbrev pub invariant-loop-body : goal.invariant-loop-body
invariant-loop-body g l =
    LeadsTo (Takes g.S.Service.steps) l.initial.service l.initial.frames l.said.items l.service l.frames

abbrev pub decreases-loop-body : goal.decreases-loop-body
decreases-loop-body g l = length l.frames
