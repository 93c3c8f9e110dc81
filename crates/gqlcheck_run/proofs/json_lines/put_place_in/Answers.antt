use Rattle.gqlcheck_run.proofs.Members.{both, in_object}
use Rattle.gqlcheck_run.proofs.json_lines.put_place_in.Goals as goal

pub returns : goal.returns
returns g c =
    in_object _ _ _ _ _ c.in_ok-open_object.ensures
    (both _ _ _ c.in_ok-put_position.ensures.members
    (both _ _ _ c.in_ok-put_extent.ensures c.in_ok-put_text.ensures.members))
    c.in_ok-close_object.ensures
