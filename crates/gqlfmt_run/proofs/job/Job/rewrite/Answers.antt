use Rattle.gqlfmt_run.proofs.job.Job.rewrite.Goals as goal

-- why it is refused
pub returns-in_default-2-clause-silent : goal.returns-in_default-2-clause-silent
returns-in_default-2-clause-silent g c =
    rw (← c.in-Ok.ensures.cases.0) (rw c.in_default-2.is at c.in_ok-text.ensures.silent)
