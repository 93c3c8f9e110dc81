use Rattle.std.proofs.Common.{◌≡◌, ◌++◌, take}
use Rattle.std.specs.List.{flat_map}
use Rattle.rpc_messages.proofs.pieces.put_all.Given as goal
use Rattle.rpc_messages.specs.Pieces.{tokens_of}

abbrev pub invariant-loop-piece : goal.invariant-loop-piece
invariant-loop-piece l = record {
  tokens : l.out.tokens ≡ l.initial.out.tokens ++ flat_map tokens_of (take l.piece-index l.pieces);
  before : l.out.before ≡ l.initial.out.before;
}
