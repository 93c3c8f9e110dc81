use Rattle.std.proofs.Common.{map, refl, subst, sym, ◌∙◌}
use Rattle.line_index.specs.Positions.{units}
use Rattle.gqlls_server.proofs.Texts.{told_all}
use Rattle.gqlls_server.proofs.documents.Document.changed.Goals as goal
use Rattle.gqlls_server.specs.Dialogue.{IsChanged}
use Rattle.gqlls_server.specs.Files.{OpenFile}
use Rattle.gqlls_server.specs.Parameters.{client_edit}
use Rattle.gqlls_server.specs.Parsing.{ParsedFile}

pub returns : goal.returns
returns c =
    let before = c.self.inside.content in
    let edits = map client_edit c.args.changes.now in
    subst (λ (new : OpenFile). IsChanged edits c.args.self.file new) (sym c.in_ok-document.ensures.file)
    (subst (λ (document : ParsedFile). IsChanged edits document.file (record {
      content = c.change_all.new.self;
      host = c.self.inside.host;
      limits = c.self.inside.limits;
    })) c.self.view_is (record {
      encoding = c.in_ok-change_all.ensures.encoding;
      host = refl;
      limits = refl;
      text = c.in_ok-change_all.ensures.client
          ∙ sym (told_all before.encoding c.args.changes.now (units before.encoding before.text));
    }))
