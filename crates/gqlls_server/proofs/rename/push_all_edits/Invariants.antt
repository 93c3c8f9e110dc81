use Rattle.std.proofs.Common.{◌≡◌, ◌++◌, take, true}
use Rattle.std.specs.List.{flat_map}
use Rattle.rpc_messages.specs.Pieces.{tokens_of}
use Rattle.gqlls_server.proofs.rename.push_all_edits.Given as goal
use Rattle.gqlls_server.specs.Edits.{known_tokens}
use Rattle.gqlls_server.specs.State.{places_of}

abbrev pub invariant-loop-one : goal.invariant-loop-one
invariant-loop-one l =
    flat_map tokens_of l.pieces.items ≡ flat_map tokens_of l.initial.pieces.items
    ++ flat_map (known_tokens (places_of true l.occurrence) l.name) (take l.one-index l.known)
