use Rattle.json.specs.Value.{value_view}
use Rattle.rpc_messages.proofs.Asked.{id_writable}
use Rattle.rpc_messages.proofs.service.reply.Goals as goal

pub request-requires : goal.request-requires
request-requires g c = id_writable (λ v. value_view v.now) _ (value_view c.args.message.now) c.get-2.result
    c.in-Some-Some.id c.requires c.get-2.ensures
    c.in-Some-Some.is-0
