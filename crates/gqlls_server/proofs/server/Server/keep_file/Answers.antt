use Rattle.std.proofs.Common.{ℕ, List, Some, refl, subst}
use Rattle.editor_validation.specs.Fragments.{Fragments}
use Rattle.gqlls_server.proofs.server.Server.keep_file.Goals as goal
use Rattle.gqlls_server.specs.Dialogue.{Updates}
use Rattle.gqlls_server.specs.Files.{IsSource, OpenFile}
use Rattle.gqlls_server.specs.Parsing.{IsParse}
use Rattle.gqlls_server.specs.State.{files, names_in}

pub returns : goal.returns
returns c =
    let document = c.in_ok-document.document in
    let parsed = c.in_ok-document.ensures.parsed in
    let file = c.in_ok-document.ensures.file in
    let source = subst (λ (file : OpenFile). IsSource file document.source) file parsed.source in
    record {
      parsed = document.parsed;
      counted = c.error_count-errors.ensures;
      promise =
          subst (λ (text : List ℕ). IsParse c.args.self.now.limits text document.parsed) source
          (subst (λ (file : OpenFile). IsParse file.limits document.source document.parsed) file parsed.promise);
      sets = record {
        files =
            subst (λ (file : OpenFile). Updates c.args.uri.now (Some file) (files c.args.self.now.files)
            (files c.insert.new.documents)) file
            c.in_ok-insert.ensures.files;
        fragments =
            subst (λ (names : Fragments). Updates c.args.uri.now (Some names) (names_in c.args.self.now.files)
            (names_in c.insert.new.documents)) parsed.named
            c.in_ok-insert.ensures.names;
        others = refl;
      };
    }
