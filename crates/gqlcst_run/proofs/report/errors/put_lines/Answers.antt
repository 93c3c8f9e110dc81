use Rattle.std.proofs.Common.{refl}
use Rattle.apollo_parser.specs.Errors.{error_of}
use Rattle.gqlcst_run.proofs.Buffers.{puts_then}
use Rattle.gqlcst_run.proofs.Lines.{lines-next}
use Rattle.gqlcst_run.proofs.report.errors.put_lines.Goals as goal
use Rattle.gqlcst_run.specs.Rendering.{IsErrorForm}

pub loop-error-preserved : goal.loop-error-preserved
loop-error-preserved g c =
    let before = c.loop-error.invariant in
    let one = c.put_error.ensures in
    record {
      output = _;
      made =
          lines-next (λ e. IsErrorForm (error_of e)) c.args.errors.now c.loop-error.error-index c.error-item.result _
          one.output _ before.made
          c.error-item.is c.loop-error-test.true one.made refl;
      puts = puts_then _ _ _ _ _ before.puts (puts_then _ _ _ _ _ one.puts c.put_str.ensures);
    }
