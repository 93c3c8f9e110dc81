use Rattle.gqlcst_run.proofs.Buffers.{puts_then}
use Rattle.gqlcst_run.proofs.output_buffer.OutputBuffer.put_each.Goals as goal

pub returns : goal.returns
returns g c = puts_then _ _ _ _ _ c.put.ensures
    (puts_then _ _ _ _ _ c.put-2.ensures (puts_then _ _ _ _ _ c.put-3.ensures c.put-4.ensures))
