use Rattle.std.proofs.Common.{arith}
use Rattle.std.proofs.lemmas.List.FromFn.{get_or-map-range_with_len}
use Rattle.apollo_lexer.proofs.bytes.start_of.Goals as goal
use Rattle.apollo_lexer.specs.Starts.{start_of}

-- the table says it of each byte
pub returns : goal.returns
returns c = get_or-map-range_with_len start_of 0 256 c.args.b c.args.b _ c.ranges.b.fits (omega arith)
