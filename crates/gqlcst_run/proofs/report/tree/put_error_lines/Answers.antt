use Rattle.gqlcst_run.proofs.Buffers.{any_then, any_some}
use Rattle.gqlcst_run.proofs.report.tree.put_error_lines.Goals as goal

pub loop-error-preserved : goal.loop-error-preserved
loop-error-preserved g c =
    any_then _ _ _ _ (any_some _ _ _ _ (any_then _ _ _ _ c.loop-error.invariant c.put_str.ensures) c.put_error.ensures)
    c.put_str-in-loop-error.ensures
