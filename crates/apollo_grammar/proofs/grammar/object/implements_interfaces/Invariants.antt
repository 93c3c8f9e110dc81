use Rattle.lexical_grammar.specs.declared.TokenKind.TheVariants as token
use Rattle.document_grammar.specs.declared.kind.SyntaxKind.TheVariants as kind
use Rattle.parser_rules.proofs.runs.Frame.{left}
use Rattle.parser_rules.specs.Nodes.{InterfaceName}
use Rattle.parser_rules.specs.RuleLanguage.{At, Bump, Do, Call, ◌>◌}
use Rattle.parser_rules.specs.Runs.{Turns}
use Rattle.apollo_grammar.proofs.grammar.object.implements_interfaces.Given as goal

abbrev pub invariant-loop-p : goal.invariant-loop-p
invariant-loop-p g l = Turns (At token.Amp) (Do (Bump kind.AMP) > Call InterfaceName) l.initial.p l.p

abbrev pub decreases-loop-p : goal.decreases-loop-p
decreases-loop-p g l = left l.p
