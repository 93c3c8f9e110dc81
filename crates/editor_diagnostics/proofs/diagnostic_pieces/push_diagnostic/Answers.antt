use Rattle.rpc_messages.specs.Pieces.{tokens_of}
use Rattle.editor_diagnostics.proofs.DiagnosticTokens.{added_four_times}
use Rattle.editor_diagnostics.proofs.diagnostic_pieces.push_diagnostic.Goals as goal

pub returns : goal.returns
returns c =
    added_four_times tokens_of c.args.pieces.now.items _ _ _ _ _ _ _ _ _ _ c.in_ok-extend_from_slice.ensures.items
    c.in_ok-extend_from_slice-2.ensures.items
    c.in_ok-extend_from_slice-3.ensures.items c.range.ensures c.in_ok-push_end.ensures (c.diagnostic_members.ensures _)
