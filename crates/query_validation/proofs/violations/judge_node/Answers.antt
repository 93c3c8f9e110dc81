use Rattle.std.proofs.Common.{map}
use Rattle.validation_names.specs.Sites.{as_located}
use Rattle.type_system.specs.Schemas.{types}
use Rattle.query_validation.proofs.ListedLemmas.{each_more}
use Rattle.query_validation.proofs.violations.judge_node.Goals as goal
use Rattle.query_validation.specs.Breaches.{as_breach, breaches_of}
use Rattle.query_validation.specs.Contexts.{as_context}
use Rattle.query_validation.specs.declared.rules.QueryRule.TheVariants.{FieldsOnCorrectType}
use Rattle.query_validation.specs.declared.rules.TheConstants.{QUERY_RULES}

pub loop-rule-preserved : goal.loop-rule-preserved
loop-rule-preserved c =
    each_more
    (λ rule. breaches_of (types c.args.schema.now) rule (as_context c.args.contexts.now.around)
    (as_context c.args.contexts.now.inside) (as_located c.args.site.now))
    QUERY_RULES (map as_breach c.args.found.now.items) (map as_breach c.loop-rule.found.items)
    (map as_breach c.judge_rule.new.found.items) c.loop-rule.rule-index FieldsOnCorrectType c.loop-rule-test.true
    c.loop-rule.invariant c.in_ok-judge_rule.ensures
