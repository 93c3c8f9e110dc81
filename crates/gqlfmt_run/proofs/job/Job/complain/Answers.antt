use Rattle.std.specs.Prelude.{string_bytes}
use Rattle.gqlfmt_run.proofs.job.Job.complain.Goals as goal

pub returns : goal.returns
returns g c = λ refused.
    (string_bytes c.in_ok-report.report, c.in_ok-report.ensures refused, rw c.as_str.ensures.value at c.say.ensures)
