use Rattle.gqlcheck_run.proofs.Members.{of_text, two_added}
use Rattle.gqlcheck_run.proofs.json_members.put_text.Goals as goal

pub returns-clause-members : goal.returns-clause-members
returns-clause-members g c =
    of_text c.args.name.now c.args.text.now _ _
    (two_added _ _ c.args.out.now c.key.new.self c.string.new.self c.in_ok-key.ensures.room.0 c.in_ok-key.ensures.ok
    c.in_ok-string.ensures.room.0 c.in_ok-string.ensures.ok)
