use Rattle.gqlcheck_run.proofs.Members.{of_flag, two_added}
use Rattle.gqlcheck_run.proofs.json_members.put_flag.Goals as goal

pub returns-clause-members : goal.returns-clause-members
returns-clause-members g c =
    of_flag c.args.name.now c.args.flag _ _
    (two_added _ _ c.args.out.now c.key.new.self c.boolean.new.self c.in_ok-key.ensures.room.0 c.in_ok-key.ensures.ok
    c.in_ok-boolean.ensures.room.0 c.in_ok-boolean.ensures.ok)
