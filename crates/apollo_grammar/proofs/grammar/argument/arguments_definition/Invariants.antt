use Rattle.parser_rules.proofs.runs.Frame.{left}
use Rattle.parser_rules.specs.Nodes.{InputValueDefinition}
use Rattle.parser_rules.specs.RuleLanguage.{Here, Child}
use Rattle.parser_rules.specs.Rules.{named_start}
use Rattle.parser_rules.specs.Runs.{Turns}
use Rattle.apollo_grammar.proofs.grammar.argument.arguments_definition.Given as goal

abbrev pub invariant-loop-p : goal.invariant-loop-p
invariant-loop-p g l = Turns (Here named_start) (Child InputValueDefinition) l.initial.p l.p

abbrev pub decreases-loop-p : goal.decreases-loop-p
decreases-loop-p g l = left l.p
