use Rattle.std.proofs.Common.{inl, arith}
use Rattle.std.proofs.lemmas.Result.{IfOk-weaker}
use Rattle.gqlfmt_run.proofs.TooLong.{text-too-long}
use Rattle.gqlfmt_run.proofs.job.Job.revise.Goals as goal

-- no document, so comments alone, or errors
pub returns-in-Ok-Err : goal.returns-in-Ok-Err
returns-in-Ok-Err g c =
    let refused = rw c.in-Ok-Err.field-0-is at c.in-Ok-Err.ensures.refused in
    let first = rw c.in-Ok-Err.field-0-is at c.in-Ok-Err.ensures.first in
    IfOk-weaker c.revise_comments.result _ _ (λ revised made. made refused first) c.revise_comments.ensures

-- a document whose formatted text is too long
pub returns-in-Err-TooLong : goal.returns-in-Err-TooLong
returns-in-Err-TooLong g c =
    let long = c.in-Err-TooLong.ensures.long c.in-Err-TooLong.field-0-is in
    text-too-long c.args.self.now.bounds c.args.source.now (inl long.document)
    (omega (arith, long.longer, c.most_of-most.ensures))
