use Rattle.std.proofs.Common.{◌++◌}
use Rattle.gqlcst_run.proofs.Buffers.{puts_then}
use Rattle.gqlcst_run.proofs.Quoting.{escaped-parts}
use Rattle.gqlcst_run.proofs.output_buffer.OutputBuffer.put_escaped_parts.Goals as goal

pub returns : goal.returns
returns g c =
    let front = c.put_escaped.ensures in
    let middle = c.put_escaped-2.ensures in
    let back = c.put_escaped-3.ensures in
    record {
      output = front.output ++ middle.output ++ back.output;
      made = escaped-parts _ _ _ _ _ _ front.made middle.made back.made;
      puts = puts_then _ _ _ _ _ (puts_then _ _ _ _ _ front.puts middle.puts) back.puts;
    }
