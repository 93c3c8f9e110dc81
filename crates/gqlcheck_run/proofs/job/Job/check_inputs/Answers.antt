use Rattle.std.proofs.Common.{inl}
use Rattle.document_checks.specs.Checking.{as_asked}
use Rattle.gqlcheck_run.proofs.Judged.{all_found, all_together, each, warned, which}
use Rattle.gqlcheck_run.proofs.job.Job.check_inputs.Goals as goal
use Rattle.gqlcheck_run.specs.Judging.{judged_by}

pub returns-in-Ok-clause-judges : goal.returns-in-Ok-clause-judges
returns-in-Ok-clause-judges g c = inl (record {
  judged = judged_by c.args.inputs.now c.in-Ok.reports.items;
  each = each c.args.self.now.checks.limits c.args.inputs.now c.in-Ok.reports.items c.in-Ok.ensures.found;
  together =
      all_together c.args.self.now.checks.limits c.args.inputs.now c.in-Ok.reports.items c.in-Ok.ensures.found
      c.in-Ok.ensures.judged;
  found = all_found c.args.self.now.checks.limits c.args.inputs.now c.in-Ok.reports.items c.in-Ok.ensures.found;
  which =
      which (as_asked c.args.self.now.checks) c.args.inputs.now c.in-Ok.reports.items c.in-Ok.ensures.found
      c.in-Ok.ensures.each;
  warned =
      warned (as_asked c.args.self.now.checks) c.args.inputs.now c.in-Ok.reports.items c.in-Ok.ensures.found
      c.in-Ok.ensures.warned;
  writes = rw c.as_slice.ensures.value at c.write_reports.ensures.writes;
})
