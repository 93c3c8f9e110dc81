use Rattle.std.proofs.Common.{◌≡◌}
use Rattle.parser_state.specs.View.{current_of}
use Rattle.apollo_grammar.proofs.Locations.{found_from}
use Rattle.apollo_grammar.proofs.grammar.directive.location_kind.Given as goal
use Rattle.apollo_grammar.specs.Locations.{location_word}

abbrev pub invariant-loop-kind : goal.invariant-loop-kind
invariant-loop-kind l = found_from l.kind-index (current_of l.token) ≡ location_word (current_of l.token)
