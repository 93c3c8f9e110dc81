use Rattle.std.proofs.Common.{List, [], ◌∷◌, ◌++◌, None, ap, sym, ◌∙◌}
use Rattle.json.specs.Token.{Token, end_array, end_object}
use Rattle.editor_diagnostics.proofs.DiagnosticTokens.{params_tokens}
use Rattle.editor_diagnostics.proofs.publications.withdrawal.Goals as goal
use Rattle.editor_diagnostics.specs.Publication.{publish_params}

pub end-requires : goal.end-requires
end-requires c = record {
  members = publish_params c.args.uri.now None [];
  is = ap (λ (x : List Token). x ++ end_array ∷ end_object ∷ []) c.in_ok-push_front.ensures
      ∙ sym (params_tokens c.args.uri.now None []);
}

pub returns-clause-withdrawn : goal.returns-clause-withdrawn
returns-clause-withdrawn c =
    c.in_ok-body.ensures.params _ (ap (λ (x : List Token). x ++ end_array ∷ end_object ∷ []) c.in_ok-push_front.ensures
    ∙ sym (params_tokens c.args.uri.now None []))
