use Rattle.rpc_messages.proofs.Answered.{request_text, requests}
use Rattle.rpc_messages.proofs.message.request.Goals as goal

pub returns-clause-params : goal.returns-clause-params
returns-clause-params c = λ members e. request_text _ _ _ _ members e c.in_ok-body.ensures

pub returns-clause-requests : goal.returns-clause-requests
returns-clause-requests c = requests _ _ _ _ c.requires c.in_ok-body.ensures
