use Rattle.std.proofs.Common.{◌++◌, ap, length}
use Rattle.apollo_parser.specs.Errors.{error_of}
use Rattle.gqlcst_run.proofs.Buffers.{puts_then}
use Rattle.gqlcst_run.proofs.Forms.{error_pieces, error-form}
use Rattle.gqlcst_run.proofs.report.errors.put_error.Goals as goal

pub returns : goal.returns
returns g c =
    let quoted = c.put_quoted_parts.ensures in
    let parts = c.message_parts.result in
    record {
      output = error_pieces c.index.result (length c.data-data.result.now) quoted.output c.shown.result.now;
      made =
          error-form (error_of c.args.error.now) (parts.0.now ++ parts.1.now ++ parts.2.now) quoted.output
          c.shown.result.now c.index.result
          (length c.data-data.result.now) c.message_parts.ensures quoted.made c.index.ensures
          (ap length c.data-data.ensures) c.shown.ensures;
      puts =
          puts_then _ _ _ _ _ c.put_str.ensures
          (puts_then _ _ _ _ _ c.put_span.ensures (puts_then _ _ _ _ _ c.put_str-2.ensures
          (puts_then _ _ _ _ _ quoted.puts (puts_then _ _ _ _ _ c.put_str-3.ensures c.put_str-4.ensures))));
    }
