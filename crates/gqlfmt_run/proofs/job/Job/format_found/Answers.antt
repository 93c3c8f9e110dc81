use Rattle.named_files.specs.Finding.{as_named, path_of}
use Rattle.gqlfmt_run.proofs.Saying.{silent_says_of_file}
use Rattle.gqlfmt_run.proofs.job.Job.format_found.Goals as goal

pub returns : goal.returns
returns g c =
    let ended = c.format_named-ended.result in
    let done = c.format_named-ended.ensures in record {
      ended = ended;
      given = done.0;
      handles = done.1;
      says = silent_says_of_file c.args.self.now.bounds (path_of (as_named c.args.named.now)) done.0 ended _ _ _ done.2
          (rw c.path.ensures at c.end_of_file.ensures.says);
      counted = c.end_of_file.ensures.counted;
    }
