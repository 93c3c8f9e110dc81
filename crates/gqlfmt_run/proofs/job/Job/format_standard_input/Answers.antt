use Rattle.gqlfmt_run.proofs.Saying.{silent_says}
use Rattle.gqlfmt_run.proofs.job.Job.format_standard_input.Goals as goal

pub returns-clause-formats : goal.returns-clause-formats
returns-clause-formats g c =
    let ended = c.format_input-ended.result in
    let done = c.format_input-ended.ensures in record {
      ended = ended;
      input = done.0;
      reads = done.1;
      writes = done.2;
      says = silent_says c.args.self.now.bounds c.args.name.now done.0 ended _ _ _ done.3 c.end.ensures.says;
      counted = c.end.ensures.counted;
    }
