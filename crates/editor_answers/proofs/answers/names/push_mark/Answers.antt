use Rattle.std.specs.List.{flat_map}
use Rattle.rpc_messages.specs.Pieces.{tokens_of}
use Rattle.editor_answers.proofs.Added.{added, added_after}
use Rattle.editor_answers.proofs.answers.names.push_mark.Goals as goal

pub returns : goal.returns
returns c =
    let now = c.args.pieces.now.items in
    added_after (flat_map tokens_of now) _ _ _ _ (added now _ _ c.in_ok-extend_from_slice.ensures.items)
    (added_after _ _ _ _ _ c.in_ok-push_range.ensures (added _ _ _ c.in_ok-extend_from_slice-2.ensures.items))
