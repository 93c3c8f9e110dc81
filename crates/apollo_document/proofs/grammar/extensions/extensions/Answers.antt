use Rattle.std.proofs.Common.{subst}
use Rattle.parser_rules.specs.Nodes.{Extensions}
use Rattle.parser_rules.specs.RuleLanguage.{Call}
use Rattle.parser_rules.specs.State.{State}
use Rattle.parser_state.specs.Parses.{Parses}
use Rattle.apollo_document.proofs.grammar.extensions.extensions.Goals as goal

pub returns : goal.returns
returns g c = subst (λ (s : State). Parses (Call Extensions) c.extensions_before.result s c.extensions_before.new.p)
    c.peek-next.ensures.same
    c.extensions_before.ensures
