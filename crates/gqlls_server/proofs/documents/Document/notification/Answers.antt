use Rattle.std.proofs.Common.{◌≡◌, List, [], map, subst, sym}
use denote.Ref.{Bor}
use Rattle.formatter.specs.Comments.{HasNoDefinitions}
use Rattle.editor_diagnostics.specs.Diagnostics.{as_diagnosis}
use Rattle.editor_diagnostics.specs.declared.diagnostic.Diagnostic.{Diagnostic}
use Rattle.editor_validation.specs.Fragments.{as_fragments}
use Rattle.editor_validation.specs.declared.fragments.FragmentNames.{FragmentNames}
use Rattle.gqlls_server.proofs.Texts.{same_publication}
use Rattle.gqlls_server.proofs.documents.Document.notification.Goals as goal
use Rattle.gqlls_server.specs.Diagnostics.{AreDiagnosticsOf}

pub returns-clause-published : goal.returns-clause-published
returns-clause-published c =
    let document = c.args.self.now in
    let parsed = c.in_ok-diagnostics.ensures.parsed in
    let found = sym c.as_slice.ensures.value in
    let others = map (λ (f : Bor FragmentNames). as_fragments f.now) c.args.others.now in
    record {
      text = document.source;
      source = parsed.source;
      parsed = document.parsed;
      promise = parsed.promise;
      named = parsed.named;
      diagnostics = map as_diagnosis c.as_slice.result.now;
      said = subst
          (λ (found : List Diagnostic). (¬ HasNoDefinitions document.source)
          → AreDiagnosticsOf c.args.takes_related others document.parsed (map as_diagnosis found)) found
          c.in_ok-diagnostics.ensures.said;
      silent = subst (λ (found : List Diagnostic). HasNoDefinitions document.source → map as_diagnosis found ≡ []) found
          c.in_ok-diagnostics.ensures.silent;
      published = same_publication _ _ _ _ _ _ _ _ c.in_ok-positions.ensures.encoding c.in_ok-positions.ensures.text
          c.in_ok-body.ensures.published;
    }
