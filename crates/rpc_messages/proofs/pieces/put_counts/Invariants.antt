use Rattle.std.proofs.Common.{◌≡◌, ◌++◌, map, take}
use Rattle.rpc_messages.proofs.pieces.put_counts.Given as goal
use Rattle.rpc_messages.specs.Pieces.{number_token}

abbrev pub invariant-loop-count : goal.invariant-loop-count
invariant-loop-count l = record {
  tokens : l.out.tokens ≡ l.initial.out.tokens ++ map number_token (take l.count-index l.counts);
  before : l.out.before ≡ l.initial.out.before;
}
