use Rattle.std.proofs.Common.{◌∙◌}
use Rattle.std.specs.Prelude.{◌==◌}
use Rattle.validation_rules.specs.RuleNumbers.{rule_number}
use Rattle.validation_rules.specs.Selection.{has_rule}
use Rattle.gqlcheck_run.proofs.RuleNames.{put_in, put_out}
use Rattle.gqlcheck_run.proofs.rules.put.Goals as goal

pub returns-then-is_in : goal.returns-then-is_in
returns-then-is_in c = λ other.
    c.with.ensures other
    ∙ put_in (has_rule c.args.set other) (rule_number other == rule_number c.args.rule) c.args.is_in c.if-is_in.true

pub returns-else-is_in : goal.returns-else-is_in
returns-else-is_in c = λ other.
    c.without.ensures other
    ∙ put_out (has_rule c.args.set other) (rule_number other == rule_number c.args.rule) c.args.is_in c.if-is_in.false
