use Rattle.editor_diagnostics.proofs.DiagnosticTokens.{one_more}
use Rattle.editor_diagnostics.proofs.publications.push_diagnostics.Goals as goal
use Rattle.editor_diagnostics.specs.Tokens.{diagnostic_tokens}

pub loop-diagnostic-preserved : goal.loop-diagnostic-preserved
loop-diagnostic-preserved c =
    one_more (diagnostic_tokens c.args.uri.now c.args.positions.now.encoding c.args.positions.now.text.now)
    c.args.diagnostics.now c.loop-diagnostic.diagnostic-index
    c.diagnostic-item.result _ _ _ c.diagnostic-item.is
    c.loop-diagnostic-test.true c.loop-diagnostic.invariant c.in_ok-push_diagnostic.ensures
