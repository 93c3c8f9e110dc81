use Rattle.gqlcheck_run.proofs.Marks.{entered}
use Rattle.gqlcheck_run.proofs.inputs.Texts.mark.Goals as goal

pub returns-clause-ok : goal.returns-clause-ok
returns-clause-ok g c =
    entered c.args.path.now c.in_ok-path.path c.args.self.now.paths c.insert.new.self c.in_ok-insert.ensures.updates
    c.in_ok-path.ensures.ok
