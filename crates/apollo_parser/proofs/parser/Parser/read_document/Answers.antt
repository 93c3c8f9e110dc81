use Rattle.std.proofs.Common.{subst}
use Rattle.std.specs.Prelude.{OnOk}
use Rattle.parser_rules.specs.Nodes.{Document}
use Rattle.parser_rules.specs.RuleLanguage.{Call}
use Rattle.parser_rules.specs.Runs.{Runs}
use Rattle.parser_rules.specs.State.{State}
use Rattle.apollo_parser.proofs.parser.Parser.read_document.Goals as goal

pub returns-clause-runs : goal.returns-clause-runs
returns-clause-runs g c =
    subst (λ (s : State). OnOk c.document.result (Runs (Call Document) s c.document.new.p)) c.in_ok-open.ensures.step
    c.document.ensures.runs
