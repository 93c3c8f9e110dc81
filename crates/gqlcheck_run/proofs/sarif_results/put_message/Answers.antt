use Rattle.gqlcheck_run.proofs.Members.{in_object}
use Rattle.gqlcheck_run.proofs.sarif_results.put_message.Goals as goal

pub returns : goal.returns
returns g c = in_object _ _ _ _ _ c.in_ok-open_object.ensures c.in_ok-put_text.ensures.members
    c.in_ok-close_object.ensures
