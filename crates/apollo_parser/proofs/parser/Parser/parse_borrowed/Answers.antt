use Rattle.apollo_parser.proofs.Parses.{promise}
use Rattle.apollo_parser.proofs.parser.Parser.parse_borrowed.Goals as goal

pub returns : goal.returns
returns g c = record { promise = promise c.in_ok-tree.ensures.run }
