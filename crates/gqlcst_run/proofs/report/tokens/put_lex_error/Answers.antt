use Rattle.std.proofs.Common.{◌++◌, ◌∙◌, length, ap, refl}
use Rattle.apollo_parser.specs.Diagnostics.{Diagnostic}
use Rattle.apollo_parser.specs.LexErrors.{lex_subject}
use Rattle.gqlcst_run.proofs.Buffers.{puts_then}
use Rattle.gqlcst_run.proofs.Forms.{error_pieces, error-form, lex-shown}
use Rattle.gqlcst_run.proofs.Items.{error-form as answer-form}
use Rattle.gqlcst_run.proofs.report.tokens.put_lex_error.Goals as goal

pub returns : goal.returns
returns g c =
    let e = c.args.error in
    let quoted = c.put_quoted_parts.ensures in
    let parts = c.message_parts.result in
    let text = c.data-text.result.now in
    let shown = lex-shown e.is_limit e.text.now e.no_text in
    let error : Diagnostic =
    record {
      message = parts.0.now ++ parts.1.now ++ parts.2.now;
      subject = lex_subject e.is_limit e.text.now;
      index = e.index;
    } in
    record {
      output = error_pieces c.index.result (length text) quoted.output text;
      made =
          answer-form e.is_limit e.text.now _ e.index error refl refl c.message_parts.ensures
          (error-form error error.message quoted.output text c.index.result (length text) refl
          quoted.made c.index.ensures
          (ap length c.data-text.ensures.text ∙ ap length shown.0) (c.data-text.ensures.text ∙ shown.1));
      puts =
          puts_then _ _ _ _ _ c.put_head.ensures (puts_then _ _ _ _ _ c.put_str.ensures
          (puts_then _ _ _ _ _ quoted.puts (puts_then _ _ _ _ _ c.put_str-2.ensures c.put_str-3.ensures)));
    }
