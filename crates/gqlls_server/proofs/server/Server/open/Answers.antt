use Rattle.std.proofs.Common.{ap, ◌∙◌}
use Rattle.json.specs.Value.{value_view}
use Rattle.gqlls_server.proofs.Messages.{found_in, opens}
use Rattle.gqlls_server.proofs.server.Server.open.Goals as goal
use Rattle.gqlls_server.specs.Dialogue.{opened}
use Rattle.gqlls_server.specs.State.{dialogue_of, file_of}

pub returns-clause-opens : goal.returns-clause-opens
returns-clause-opens c =
    opens (value_view c.args.params.now) c.in_ok-reply.reply (dialogue_of c.args.self.now)
    (dialogue_of c.publish.new.self)
    c.in-Some.uri.now c.in-Some-text_of.text.now (file_of c.in_ok-document.document)
    (found_in _ _ _ _ c.uri_of.ensures c.in-Some.is) (found_in _ _ _ _ c.text_of.ensures c.in-Some-text_of.is)
    (c.in_ok-document.ensures.file
    ∙ ap (opened (dialogue_of c.args.self.now) c.in-Some-text_of.text.now) c.host_of.ensures)
    c.in_ok-reply.ensures.publishes
