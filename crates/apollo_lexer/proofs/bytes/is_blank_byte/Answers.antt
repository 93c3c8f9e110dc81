use Rattle.std.proofs.Common.{◌||◌, false, arith}
use Rattle.std.proofs.lemmas.List.FromFn.{get_or-map-range_with_len}
use Rattle.lexical_grammar.specs.Characters.{is_white_space, is_line_terminator}
use Rattle.apollo_lexer.proofs.bytes.is_blank_byte.Goals as goal

-- the table says it of each byte
pub returns : goal.returns
returns c = get_or-map-range_with_len (λ b. is_white_space b || is_line_terminator b) 0 256 c.args.b c.args.b false
    c.ranges.b.fits (omega arith)
