use Rattle.std.proofs.Common.{ap, refl, rules}
use Rattle.std.specs.Prelude.{option_map}
use Rattle.json.specs.Value.{value_view}
use Rattle.rpc_messages.specs.declared.reply.Reply.TheVariants.{Notification}
use Rattle.gqlls_server.proofs.Maps.{updated}
use Rattle.gqlls_server.proofs.Messages.{closes, found_in}
use Rattle.gqlls_server.proofs.server.Server.close.Goals as goal
use Rattle.gqlls_server.specs.State.{dialogue_of, file_of, names_of}
use Rattle.gqlls_server.specs.declared.server.Server.{Server}

pub returns-clause-closes : goal.returns-clause-closes
returns-clause-closes c =
    let after : Server = record c.args.self.now { documents = c.remove.new.self } in
    closes (value_view c.args.params.now) (Notification c.in_ok-notification.notification)
    (dialogue_of c.args.self.now) (dialogue_of after)
    c.in-Some.uri.now file_of c.remove.result
    (found_in _ _ _ _ c.uri_of.ensures c.in-Some.is) (ap (option_map file_of) c.remove.ensures.value) (search rules)
    (record {
      sets = record {
        documents = updated file_of _ _ c.args.self.now.documents c.remove.new.self _ _ refl
            c.remove.ensures.updates refl;
        fragments = updated names_of _ _ c.args.self.now.documents c.remove.new.self _ _ refl
            c.remove.ensures.updates refl;
        files = refl;
        file_fragments = refl;
        stage = refl;
        encoding = refl;
        may_register = refl;
        takes_related = refl;
        limits = refl;
      };
      notification = c.in_ok-notification.ensures.withdrawn;
    })
