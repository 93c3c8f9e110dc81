use Rattle.lexical_grammar.specs.declared.TokenKind.TheVariants as token
use Rattle.parser_rules.proofs.runs.Frame.{left}
use Rattle.parser_rules.specs.Nodes.{Argument}
use Rattle.parser_rules.specs.RuleLanguage.{At, Child}
use Rattle.parser_rules.specs.Runs.{Turns}
use Rattle.apollo_grammar.proofs.grammar.argument.arguments.Given as goal

abbrev pub invariant-loop-constness : goal.invariant-loop-constness
invariant-loop-constness g l = Turns (At token.Name) (Child (Argument l.constness)) l.initial.p l.p

abbrev pub decreases-loop-constness : goal.decreases-loop-constness
decreases-loop-constness g l = left l.p
