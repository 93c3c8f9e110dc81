use Rattle.std.proofs.Common.{[], ◌∷◌, ◌++◌}
use Rattle.gqlcst_run.proofs.Buffers.{puts_then}
use Rattle.gqlcst_run.proofs.Quoting.{quoted-form}
use Rattle.gqlcst_run.proofs.output_buffer.OutputBuffer.put_quoted_escaped.Goals as goal

pub returns : goal.returns
returns g c =
    let escaped = c.put_escaped.ensures in
    record {
      output = 34 ∷ (escaped.output ++ 34 ∷ []);
      made = quoted-form c.args.text.now escaped.output escaped.made;
      puts = puts_then _ _ _ _ _ c.put.ensures (puts_then _ _ _ _ _ escaped.puts c.put-2.ensures);
    }
