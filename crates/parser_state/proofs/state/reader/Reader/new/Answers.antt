use Rattle.std.proofs.Common.{refl, arith}
use Rattle.parser_state.proofs.Lookahead.{given-all}
use Rattle.parser_state.proofs.state.reader.Reader.new.Goals as goal

pub invariant_of-result : goal.invariant_of-result
invariant_of-result c =
    record {
      known = refl;
      within = let h = given-all c.args.lexer in let e = c.copied-start.ensures in
          omega (arith, h, e);
    }
