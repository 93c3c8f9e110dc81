use Rattle.gqlcst_run.proofs.Buffers.{any_then}
use Rattle.gqlcst_run.proofs.report.tree.put_indent.Goals as goal

pub loop-left-preserved : goal.loop-left-preserved
loop-left-preserved g c = any_then _ _ _ _ c.loop-left.invariant c.put_str.ensures

pub returns : goal.returns
returns g c = any_then _ _ _ _ c.loop-left.invariant c.put_str-2.ensures
