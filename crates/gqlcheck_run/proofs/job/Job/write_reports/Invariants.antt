use Rattle.std.proofs.Common.{◌≡◌, map, take}
use Rattle.std.specs.List.{zip}
use Rattle.named_files.specs.Handling.{InTurn}
use Rattle.gqlcheck_run.proofs.job.Job.write_reports.Given as goal
use Rattle.gqlcheck_run.specs.Judging.{WritesReport, as_judged}

abbrev pub invariant-loop-here : goal.invariant-loop-here
invariant-loop-here g l = record {
  writes :
      InTurn (WritesReport l.self.printing)
      (map as_judged (take l.here (zip l.inputs l.reports))) l.status
      (record {
        output = g.W.Sink.account l.initial.writer;
        complaints = g.E.Sink.account l.initial.complaints;
      })
      (record { output = g.W.Sink.account l.writer; complaints = g.E.Sink.account l.complaints });
  quiet : l.status ≡ 0 → l.tally.errors ≡ l.initial.tally.errors;
}
