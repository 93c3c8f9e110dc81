use Rattle.std.proofs.Common.{arith}
use Rattle.std.proofs.lemmas.List.{take_all}
use Rattle.std.specs.List.{zip}
use Rattle.named_files.proofs.Turns.{in_turn-next}
use Rattle.gqlcheck_run.proofs.Judged.{as_many, as_many_pairs, pair_at}
use Rattle.gqlcheck_run.proofs.Quiet.{quiet_more}
use Rattle.gqlcheck_run.proofs.job.Job.write_reports.Goals as goal
use Rattle.gqlcheck_run.specs.Judging.{WritesReport, as_judged}

pub bounds-reports-here : goal.bounds-reports-here
bounds-reports-here g c =
    omega (
      arith,
      c.loop-here-test.true,
      as_many c.args.self.now.checks.limits c.args.inputs.now c.args.reports.now c.requires,
    )

pub loop-here-preserved : goal.loop-here-preserved
loop-here-preserved g c = record {
  writes =
      in_turn-next (WritesReport c.args.self.now.printing) as_judged
      (zip c.args.inputs.now c.args.reports.now) c.loop-here.here c.loop-here.status c.write_report-one.result
      c.max-status.result (c.index-inputs-here.result, c.index-reports-here.result) _ _ _
      (omega (
        arith,
        c.loop-here-test.true,
        as_many_pairs c.args.self.now.checks.limits c.args.inputs.now c.args.reports.now c.requires,
      ))
      c.loop-here.invariant.writes
      (rw (pair_at c.args.inputs.now c.args.reports.now c.loop-here.here c.index-inputs-here.result _
      c.index-reports-here.result _ c.loop-here-test.true
      (as_many c.args.self.now.checks.limits c.args.inputs.now c.args.reports.now c.requires) c.index-inputs-here.is
      c.index-reports-here.is) c.write_report-one.ensures.writes)
      c.max-status.ensures;
  quiet =
      quiet_more c.loop-here.status c.write_report-one.result c.max-status.result c.args.tally.now.errors
      c.loop-here.tally.errors
      c.write_report-one.new.tally.errors c.max-status.ensures c.loop-here.invariant.quiet
      c.write_report-one.ensures.quiet;
}

pub returns-clause-writes : goal.returns-clause-writes
returns-clause-writes g c =
    rw (take_all c.loop-here.here (zip c.args.inputs.now c.args.reports.now)
    (omega (
      arith,
      c.loop-here-test.false,
      as_many_pairs c.args.self.now.checks.limits c.args.inputs.now c.args.reports.now c.requires,
    ))) at c.loop-here.invariant.writes
