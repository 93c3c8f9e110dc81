use Rattle.std.proofs.Common.{subst}
use Rattle.parser_rules.specs.Nodes.{DescribedDefinition}
use Rattle.parser_rules.specs.RuleLanguage.{Call}
use Rattle.parser_rules.specs.State.{State}
use Rattle.parser_state.specs.Parses.{Parses}
use Rattle.apollo_document.proofs.grammar.document.described_definition.Goals as goal

pub returns : goal.returns
returns g c = subst (λ (s : State). Parses (Call DescribedDefinition) c.described_definition_before.result s
    c.described_definition_before.new.p)
    c.peek-next.ensures.same c.described_definition_before.ensures
