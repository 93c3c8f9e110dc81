use Rattle.std.proofs.Common.{refl}
use Rattle.std.specs.Prelude.{Err}
use Rattle.gqlfmt_run.proofs.job.Job.format_named.Goals as goal

-- nothing was read, and nothing is done
pub returns-in-Failed : goal.returns-in-Failed
returns-in-Failed g c = rw c.in-Failed.is (Err c.in-Failed.error, (refl, refl), refl)
