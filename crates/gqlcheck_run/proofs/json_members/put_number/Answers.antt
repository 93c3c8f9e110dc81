use Rattle.gqlcheck_run.proofs.Members.{of_number, two_added}
use Rattle.gqlcheck_run.proofs.json_members.put_number.Goals as goal

pub returns-clause-members : goal.returns-clause-members
returns-clause-members g c =
    of_number c.args.name.now c.args.number _ _
    (two_added _ _ c.args.out.now c.key.new.self c.u64.new.self c.in_ok-key.ensures.room.0 c.in_ok-key.ensures.ok
    c.in_ok-u64.ensures.room.0 c.in_ok-u64.ensures.ok)
