use Rattle.std.proofs.lemmas.Result.{IfOk-weaker}
use Rattle.std.specs.Prelude.{string_bytes}
use Rattle.apollo_parser.specs.Errors.{error_of}
use Rattle.gqlfmt_run.proofs.Reasons.{of-errors}
use Rattle.gqlfmt_run.proofs.job.Job.reasons.Goals as goal

pub returns-in-Errors : goal.returns-in-Errors
returns-in-Errors g c = IfOk-weaker c.render_report.result _ _ (λ report begins refused.
    of-errors error_of c.args.self.now.bounds c.args.name.now c.args.source.now (string_bytes report)
    c.in-Errors.first.errors.items
    c.in-Errors.first.more (rw c.in-Errors.is at refused) begins) c.render_report.ensures
