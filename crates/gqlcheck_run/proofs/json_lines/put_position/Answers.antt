use Rattle.gqlcheck_run.proofs.Members.{adds_both, both}
use Rattle.gqlcheck_run.proofs.json_lines.put_position.Goals as goal

pub returns-clause-adds : goal.returns-clause-adds
returns-clause-adds g c =
    adds_both _ _ _ _ _ c.in_ok-put_text.ensures.adds
    (adds_both _ _ _ _ _ (rw c.line_of.ensures at c.in_ok-put_number.ensures.adds)
    (rw c.column_of.ensures at c.in_ok-put_number-2.ensures.adds))

pub returns-clause-members : goal.returns-clause-members
returns-clause-members g c =
    both _ _ _ c.in_ok-put_text.ensures.members
    (both _ _ _ c.in_ok-put_number.ensures.members c.in_ok-put_number-2.ensures.members)
