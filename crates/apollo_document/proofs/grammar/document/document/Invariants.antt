use Rattle.parser_rules.proofs.runs.Frame.{left}
use Rattle.parser_rules.specs.Nodes.{Definition}
use Rattle.parser_rules.specs.RuleLanguage.{Call, Ready}
use Rattle.parser_rules.specs.Runs.{Turns}
use Rattle.apollo_document.proofs.grammar.document.document.Given as goal

abbrev pub invariant-loop-p : goal.invariant-loop-p
invariant-loop-p g l = Turns Ready (Call Definition) l.initial.p l.p

abbrev pub decreases-loop-p : goal.decreases-loop-p
decreases-loop-p g l = left l.p
