use Rattle.std.proofs.Common.{◌≡◌, ◌++◌, take}
use Rattle.std.specs.List.{flat_map}
use Rattle.rpc_messages.specs.Pieces.{tokens_of}
use Rattle.editor_answers.proofs.answers.names.push_changes.Given as goal
use Rattle.editor_answers.specs.Results.{change_tokens}

abbrev pub invariant-loop-span : goal.invariant-loop-span
invariant-loop-span l =
    flat_map tokens_of l.pieces.items ≡ flat_map tokens_of l.initial.pieces.items
    ++ flat_map (change_tokens l.positions.encoding l.positions.text.now l.name)
    (take l.span-index l.found)
