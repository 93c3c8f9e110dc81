use Rattle.std.proofs.Common.{arith, rules}
use Rattle.lexical_grammar.proofs.Cuts.{tok-some}
use Rattle.lexical_grammar.specs.Tokens.{Tok}
use Rattle.format_layout.proofs.writer.Writer.write_ignored.Goals as goal

pub returns-clause-short : goal.returns-clause-short
returns-clause-short g c =
    let token : Tok c.args.kind c.args.text.now = search rules in
    omega (arith, tok-some c.args.kind c.args.text.now token, c.in_ok-ignored.ensures.short)
