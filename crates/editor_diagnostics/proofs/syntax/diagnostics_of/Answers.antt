use Rattle.editor_diagnostics.proofs.Groups.{one_made}
use Rattle.editor_diagnostics.proofs.syntax.diagnostics_of.Goals as goal
use Rattle.editor_diagnostics.specs.Diagnostics.{as_diagnosis}
use Rattle.editor_diagnostics.specs.Syntax.{as_group, syntax_diagnostic}

pub loop-group-preserved : goal.loop-group-preserved
loop-group-preserved c =
    one_made as_diagnosis syntax_diagnostic as_group c.loop-group.found.items c.push.new.self.items c.args.groups.now
    c.loop-group.group-index _ c.group-item.result
    c.loop-group.invariant c.in_ok-push.ensures.items c.in_ok-diagnostic_of.ensures c.group-item.is
    c.loop-group-test.true
