use Rattle.std.proofs.Common.{◌≡◌, take}
use Rattle.std.specs.List.{flat_map}
use Rattle.rpc_messages.proofs.nesting.Nesting.take_all.Given as goal
use Rattle.rpc_messages.specs.Nesting.{after_all, expected_in}
use Rattle.rpc_messages.specs.Pieces.{tokens_of}

abbrev pub invariant-loop-piece : goal.invariant-loop-piece
invariant-loop-piece l =
    expected_in l.self ≡ after_all (flat_map tokens_of (take l.piece-index l.pieces)) (expected_in l.initial.self)
