use Rattle.std.proofs.Common.{false, arith}
use Rattle.std.proofs.lemmas.List.FromFn.{get_or-map-range_with_len}
use Rattle.lexical_grammar.specs.Characters.{is_name_continue}
use Rattle.apollo_lexer.proofs.bytes.is_name_continue.Goals as goal

-- the table says it of each byte
pub returns : goal.returns
returns c = get_or-map-range_with_len is_name_continue 0 256 c.args.b c.args.b false c.ranges.b.fits (omega arith)
