use Rattle.std.proofs.Common.{rules}
use Rattle.std.proofs.lemmas.Result.{IfOk-weaker}
use Rattle.gqlcheck_run.proofs.job.Job.output_of.Goals as goal

pub returns : goal.returns
returns g c =
    IfOk-weaker c.in_format.result _ _ (λ output begins. record { found = begins; quiet = search rules })
    c.in_format.ensures
