use Rattle.std.proofs.Common.{refl}
use Rattle.std.proofs.lemmas.Result.{err_from_is_err_and}
use Rattle.std.specs.Prelude.{Ok, Err}
use Rattle.command_lines.specs.declared.complaints.FileFault.TheVariants.{Device}
use Rattle.gqlfmt_run.proofs.PathLemmas.{shown, unread}
use Rattle.gqlfmt_run.proofs.job.Job.format_file.Goals as goal

pub returns-in-Err : goal.returns-in-Err
returns-in-Err g c = (
  Err c.in-Err.error,
  unread g.F.Files.reads g.F.Files.replaces c.args.self.now.bounds c.args.path.now c.args.self.now.mode
      c.in-Err.error _ _ _ c.in-Err.ensures,
  refl,
)

-- what is shown breaks off
pub returns-in_err-settled-in-Check : goal.returns-in_err-settled-in-Check
returns-in_err-settled-in-Check g c =
    let ends = rw c.as_slice-text.ensures.value at c.in_err-settled-in-Check.ensures.output in
    let p = err_from_is_err_and c.from_residual.result c.from_residual.ensures.1 in
    rw (p.1, p.2) (
      Ok c.in-Ok.bytes.items,
      shown g.F.Files.reads g.F.Files.replaces c.args.self.now.bounds c.args.path.now c.args.self.now.mode
          (Ok c.in-Ok.bytes.items) (Err (Device c.in_err-settled-in-Check.field-0.0)) _ _ _ _ c.in-Check.is
          c.in-Ok.ensures (c.in_err-settled-in-Check.ensures.reads, ends),
      c.in_err-settled-in-Check.ensures.silent,
    )
