use Rattle.rpc_messages.proofs.Answered.{notification_text, notifies}
use Rattle.rpc_messages.proofs.message.notification.Goals as goal

pub returns-clause-params : goal.returns-clause-params
returns-clause-params c = λ members e. notification_text _ _ _ members e c.in_ok-body.ensures

pub returns-clause-notifies : goal.returns-clause-notifies
returns-clause-notifies c = notifies _ _ _ c.requires c.in_ok-body.ensures
