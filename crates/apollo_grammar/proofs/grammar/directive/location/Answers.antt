use Rattle.parser_rules.specs.Runs.{yes, no}
use Rattle.apollo_grammar.proofs.Locations.{no_location}
use Rattle.apollo_grammar.proofs.Parsing.{parsed_by}
use Rattle.apollo_grammar.proofs.grammar.directive.location.Goals as goal

pub returns-in-None : goal.returns-in-None
returns-in-None g c = parsed_by (λ r. no_location c.in-None.ensures c.current.ensures (yes c.if-at.ensures r))
    c.err.ensures

pub returns-in-None-2 : goal.returns-in-None-2
returns-in-None-2 g c =
    parsed_by (λ r. no_location c.in-None-2.ensures c.current.ensures (no c.if-at.ensures r)) c.err-in-None-2.ensures
