use Rattle.std.proofs.Common.{◌∙◌}
use Rattle.rpc_messages.proofs.Answered.{still_long, still_nested}
use Rattle.rpc_messages.proofs.message.LongAnswer.put.Goals as goal

pub invariant_of-result : goal.invariant_of-result
invariant_of-result c = record {
  before = c.in_ok-put_all.ensures.before ∙ c.self.invariant.before;
  front = still_long _ _ _ c.in_ok-put_all.ensures.ok c.self.invariant.front;
  nests = still_nested _ _ _ _ _ c.in_ok-put_all.ensures.ok c.self.invariant.front c.self.invariant.nests
      c.in_ok-take_all.ensures;
}
