use Rattle.gqlcheck_run.proofs.Members.{both, in_object, none}
use Rattle.gqlcheck_run.proofs.json_lines.put_limit.Goals as goal

pub returns : goal.returns
returns g c =
    in_object _ _ _ _ _ c.in_ok-open_object.ensures
    (both _ _ _ c.in_ok-put_text.ensures.members
    (both _ _ _ c.in_ok-put_number.ensures.members c.in_ok-put_number-2.ensures.members))
    c.in_ok-close_object.ensures

pub returns-in_default : goal.returns-in_default
returns-in_default g c = none _
