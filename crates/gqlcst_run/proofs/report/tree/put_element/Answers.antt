use Rattle.gqlcst_run.proofs.Buffers.{any_then, any_any}
use Rattle.gqlcst_run.proofs.report.tree.put_element.Goals as goal

pub returns : goal.returns
returns g c =
    let name = any_then _ _ _ _ (any_then _ _ _ _ c.put_indent.ensures c.put_str.ensures) c.put_str-2.ensures in
    let range = any_then _ _ _ _ (any_then _ _ _ _ name c.put_str-3.ensures) c.put_range.ensures in
    any_then _ _ _ _ (any_any _ _ _ range c.put_leaf.ensures) c.put_str-4.ensures
