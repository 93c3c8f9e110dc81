use Rattle.gqlfmt_run.proofs.Reasons.{is-refused}
use Rattle.gqlfmt_run.proofs.job.Job.format_or_complain.Goals as goal

pub returns-in_ok-complain-in-Err-clause-formatted : goal.returns-in_ok-complain-in-Err-clause-formatted
returns-in_ok-complain-in-Err-clause-formatted g c = is-refused _ _ _ (rw c.in-Err.is at c.in_ok-text.ensures)
