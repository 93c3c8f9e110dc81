use Rattle.std.proofs.Common.{◌≡◌, ◌+◌, true, false, ◌++◌, ◌∙◌, codes, length}
use Rattle.apollo_parser.specs.Printed.{range_text}
use Rattle.apollo_parser.specs.declared.TokenKind.TheVariants.{Eof}
use Rattle.gqlcst_run.proofs.Buffers.{puts_then}
use Rattle.gqlcst_run.proofs.Forms.{token-form}
use Rattle.gqlcst_run.proofs.report.tokens.put_token.Goals as goal

pub returns : goal.returns
returns g c =
    let token = c.args.token in
    let text = c.data-text.result.now in
    let start = c.index.result in
    let quoted = c.put_quoted_after.ensures in
    let other : token.kind ≡ Eof → ⊥ = λ e. let is : false ≡ true = rw (c.kind.ensures ∙ e) at c.if-eq.ensures in
    (cc) in
    record {
      output = range_text c.name.result.now start (start + length text) ++ (codes " " ++ quoted.made.form);
      made = token-form token.kind token.text.now text c.name.result.now quoted.made.form token.index start other
          c.name.ensures c.data-text.ensures
          c.index.ensures quoted.made.stated_form;
      puts = puts_then _ _ _ _ _ c.put_head.ensures (rw quoted.made.joined at quoted.puts);
    }
