use Rattle.std.proofs.Common.{map}
use Rattle.editor_diagnostics.proofs.Cursors.{read_at}
use Rattle.editor_diagnostics.proofs.DiagnosticTokens.{whole_params}
use Rattle.editor_diagnostics.proofs.publications.publication.Goals as goal
use Rattle.editor_diagnostics.specs.Diagnostics.{as_diagnosis}
use Rattle.editor_diagnostics.specs.Publication.{publish_params, diagnostic_value}

pub end-requires : goal.end-requires
end-requires c = record {
  members = publish_params c.args.uri.now c.args.version
      (map (diagnostic_value c.args.uri.now c.args.positions.now.encoding c.args.positions.now.text.now)
      (map as_diagnosis c.args.diagnostics.now));
  is = whole_params c.args.uri.now c.args.version _ _ c.args.diagnostics.now _ _ c.in_ok-push_front.ensures
      c.in_ok-push_diagnostics.ensures;
}

pub returns-clause-published : goal.returns-clause-published
returns-clause-published c = record {
  notification = c.in_ok-body.ensures.params _
      (whole_params c.args.uri.now c.args.version _ _ c.args.diagnostics.now _ _ c.in_ok-push_front.ensures
      c.in_ok-push_diagnostics.ensures);
  read = read_at _ _;
}
