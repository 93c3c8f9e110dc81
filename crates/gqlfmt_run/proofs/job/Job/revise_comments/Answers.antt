use Rattle.std.proofs.Common.{inr, refl, arith}
use Rattle.gqlfmt_run.proofs.TooLong.{text-too-long}
use Rattle.gqlfmt_run.proofs.job.Job.revise_comments.Goals as goal

-- comments alone, whose formatted text is too long
pub returns-in-Err-TooLong : goal.returns-in-Err-TooLong
returns-in-Err-TooLong g c = λ _ _.
    let small = c.in-Err-TooLong.ensures.small c.in-Err-TooLong.field-0-is in
    let most = c.most_of-most.ensures in
    text-too-long c.args.self.now.bounds c.args.source.now
    (inr (record {
      none = c.in-Err-TooLong.ensures.long c.in-Err-TooLong.field-0-is;
      few = c.if-not-stays_within.ensures.few refl;
    }))
    (omega arith)
