use Rattle.gqlcheck_run.proofs.Members.{both}
use Rattle.gqlcheck_run.proofs.json_lines.put_finding.Goals as goal

pub returns : goal.returns
returns g c =
    both _ _ _ c.in_ok-put_text.ensures.members
    (both _ _ _ c.in_ok-put_text-2.ensures.members
    (both _ _ _ c.in_ok-put_text-3.ensures.members
    (both _ _ _ c.in_ok-put_other.ensures (both _ _ _ c.in_ok-put_operation.ensures c.in_ok-put_limit.ensures))))
