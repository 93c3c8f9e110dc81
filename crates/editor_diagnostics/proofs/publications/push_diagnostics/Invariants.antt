use Rattle.std.proofs.Common.{◌≡◌, ◌++◌, take}
use Rattle.std.specs.List.{flat_map}
use Rattle.rpc_messages.specs.Pieces.{tokens_of}
use Rattle.editor_diagnostics.proofs.publications.push_diagnostics.Given as goal
use Rattle.editor_diagnostics.specs.Tokens.{diagnostic_tokens}

abbrev pub invariant-loop-diagnostic : goal.invariant-loop-diagnostic
invariant-loop-diagnostic l =
    flat_map tokens_of l.pieces.items ≡ flat_map tokens_of l.initial.pieces.items
    ++ flat_map (diagnostic_tokens l.uri l.positions.encoding l.positions.text.now)
    (take l.diagnostic-index l.diagnostics)
