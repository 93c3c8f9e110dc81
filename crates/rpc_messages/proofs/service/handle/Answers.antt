use Rattle.std.proofs.Common.{Err, ap}
use Rattle.std.proofs.lemmas.Result.{IfOk-weaker}
use Rattle.rpc_messages.proofs.Asked.{no_json_refused}
use Rattle.rpc_messages.proofs.service.handle.Goals as goal

pub returns-in-Err-Invalid-clause-replies : goal.returns-in-Err-Invalid-clause-replies
returns-in-Err-Invalid-clause-replies g c = IfOk-weaker c.refused.result _ _
    (λ r. no_json_refused _ r (c.in-Err-Invalid.ensures.invalid (ap Err c.in-Err-Invalid.field-0-is)))
    c.refused.ensures.replies
