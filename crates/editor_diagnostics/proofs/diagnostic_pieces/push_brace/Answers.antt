use Rattle.std.proofs.Common.{◌++◌, List, ap, ◌∙◌, refl}
use Rattle.std.specs.List.{flat_map}
use Rattle.json.specs.Token.{Token}
use Rattle.rpc_messages.specs.Pieces.{tokens_of}
use Rattle.editor_diagnostics.proofs.DiagnosticTokens.{added_thrice, brace_tokens}
use Rattle.editor_diagnostics.proofs.diagnostic_pieces.push_brace.Goals as goal

pub returns : goal.returns
returns c =
    added_thrice tokens_of c.args.pieces.now.items _ _ _ _ _ _ _ _ c.in_ok-extend_from_slice.ensures.items
    c.in_ok-extend_from_slice-2.ensures.items
    c.in_ok-extend_from_slice-3.ensures.items c.range.ensures refl
    ∙ ap (λ (x : List Token). flat_map tokens_of c.args.pieces.now.items ++ x)
    (brace_tokens _ _ _ _ _ _ c.brace_front.ensures c.saturating_add.ensures)
