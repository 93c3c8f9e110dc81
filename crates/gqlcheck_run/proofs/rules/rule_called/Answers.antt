use Rattle.std.proofs.Common.{◌∙◌, sym}
use Rattle.gqlcheck_run.proofs.RuleNames.{found_rule}
use Rattle.gqlcheck_run.proofs.rules.rule_called.Goals as goal

pub returns-in-Some-clause-ok : goal.returns-in-Some-clause-ok
returns-in-Some-clause-ok c = found_rule c.args.name.now c.in-Some.rule (sym c.named.ensures ∙ c.in-Some.is)
