use Rattle.std.proofs.Common.{◌≡◌, ◌≢◌, [], ap, arith}
use Rattle.std.proofs.lemmas.Bool.Decides.{nat_tests}
use Rattle.std.specs.List.{flat_map}
use Rattle.std.specs.Prelude.{length}
use Rattle.rpc_messages.specs.Pieces.{tokens_of}
use Rattle.editor_answers.proofs.Added.{added}
use Rattle.gqlls_server.proofs.Edits.{pieces_written}
use Rattle.gqlls_server.proofs.rename.push_edits.Goals as goal
use Rattle.gqlls_server.specs.State.{known_of}

pub returns : goal.returns
returns c =
    let now = c.args.pieces.now.items in
    let some : c.args.found.now ≢ [] =
    λ none. (let empty : length c.args.found.now ≡ 0 = ap length none in grind (arith, nat_tests)) in
    pieces_written (known_of c.args.known.now) c.args.name.now c.args.found.now _ _ (flat_map tokens_of now) _ _ _ some
    c.in_ok-positions.ensures.encoding
    c.in_ok-positions.ensures.text (added now _ _ c.in_ok-extend_from_slice.ensures.items) c.in_ok-push_changes.ensures
    (added _ _ _ c.in_ok-extend_from_slice-2.ensures.items)
