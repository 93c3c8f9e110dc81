use Rattle.parser_rules.proofs.runs.Frame.{left}
use Rattle.parser_rules.specs.Nodes.{VariableDefinition}
use Rattle.parser_rules.specs.RuleLanguage.{Here, Child}
use Rattle.parser_rules.specs.Rules.{variable_start}
use Rattle.parser_rules.specs.Runs.{Turns}
use Rattle.apollo_grammar.proofs.grammar.variable.variable_definitions.Given as goal

abbrev pub invariant-loop-p : goal.invariant-loop-p
invariant-loop-p g l = Turns (Here variable_start) (Child VariableDefinition) l.initial.p l.p

abbrev pub decreases-loop-p : goal.decreases-loop-p
decreases-loop-p g l = left l.p
