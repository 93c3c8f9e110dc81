use Rattle.std.proofs.Common.{List, ap, map, refl, subst, sym, ◌∙◌}
use Rattle.std.specs.Prelude.{option_map}
use Rattle.json.specs.Value.{value_view}
use Rattle.editor_text.specs.declared.Change.{Change}
use Rattle.gqlls_server.proofs.Maps.{updated}
use Rattle.gqlls_server.proofs.Messages.{changes, found_in}
use Rattle.gqlls_server.proofs.Others.{publishes_again}
use Rattle.gqlls_server.proofs.server.Server.change.Goals as goal
use Rattle.gqlls_server.specs.Dialogue.{IsChanged}
use Rattle.gqlls_server.specs.Parameters.{client_edit}
use Rattle.gqlls_server.specs.State.{dialogue_of, file_of, names_of}
use Rattle.gqlls_server.specs.declared.server.Server.{Server}

pub returns-clause-changes : goal.returns-clause-changes
returns-clause-changes c =
    let old = c.args.self.now in
    let middle : Server = record old { documents = c.remove.new.self } in
    let before = c.in-Some-remove.document in
    let after = c.in_ok-document.document in
    changes (value_view c.args.params.now) c.in_ok-reply.reply (dialogue_of old) (dialogue_of c.publish.new.self)
    c.in-Some.uri.now (map client_edit c.in-Some-2.changes.items) (file_of before)
    (found_in _ _ _ _ c.uri_of.ensures c.in-Some.is) (found_in _ _ _ _ c.in_ok-changes.ensures c.in-Some-2.is)
    (ap (option_map file_of) (sym c.remove.ensures.value ∙ c.in-Some-remove.is))
    (record {
      after = file_of after;
      changed = subst (λ (changes : List Change). IsChanged (map client_edit changes) (file_of before) (file_of after))
          c.as_slice.ensures.value c.in_ok-document.ensures;
      publishes = publishes_again _ _ _ _ (dialogue_of old) (dialogue_of middle) (dialogue_of c.publish.new.self)
          (record {
            documents = updated file_of _ _ old.documents c.remove.new.self _ _ refl c.remove.ensures.updates refl;
            fragments = updated names_of _ _ old.documents c.remove.new.self _ _ refl c.remove.ensures.updates refl;
            files = refl;
            file_fragments = refl;
            stage = refl;
            encoding = refl;
            may_register = refl;
            takes_related = refl;
            limits = refl;
          })
          c.in_ok-reply.ensures.publishes;
    })
