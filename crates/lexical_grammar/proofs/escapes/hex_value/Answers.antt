use Rattle.std.proofs.Common.{arith}
use Rattle.lexical_grammar.proofs.HexReads.{hex-more}
use Rattle.lexical_grammar.proofs.escapes.hex_value.Goals as goal

pub loop-b-preserved : goal.loop-b-preserved
loop-b-preserved c = record {
  small = omega (arith, c.min-value.ensures);
  so_far = hex-more c.args.digits.now c.loop-b.b-index c.loop-b.value c.unwrap_or-digit.result c.min-value.result
      c.hex_digit.result c.loop-b-test.true
      c.hex_digit.ensures c.unwrap_or-digit.ensures
      c.min-value.ensures c.loop-b.invariant.so_far;
}
