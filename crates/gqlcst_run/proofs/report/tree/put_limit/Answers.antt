use Rattle.gqlcst_run.proofs.Buffers.{puts_then}
use Rattle.gqlcst_run.proofs.report.tree.put_limit.Goals as goal

pub returns : goal.returns
returns g c = record {
  output = _;
  puts =
      puts_then _ _ _ _ _ c.put_str.ensures
      (puts_then _ _ _ _ _ c.put_number.ensures (puts_then _ _ _ _ _ c.put_str-2.ensures
      (puts_then _ _ _ _ _ c.put_number-2.ensures c.put_str-3.ensures)));
}
