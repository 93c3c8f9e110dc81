use Rattle.gqlls_server.proofs.SameNotification.{same-notification}
use Rattle.gqlls_server.proofs.laws.same_notification.Goals as goal

pub returns : goal.returns
returns c = same-notification
