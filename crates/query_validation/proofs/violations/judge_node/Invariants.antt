use Rattle.std.proofs.Common.{◌≡◌, ◌++◌, map, take}
use Rattle.std.specs.List.{flat_map}
use Rattle.validation_names.specs.Sites.{as_located}
use Rattle.type_system.specs.Schemas.{types}
use Rattle.query_validation.proofs.violations.judge_node.Given as goal
use Rattle.query_validation.specs.Breaches.{as_breach, breaches_of}
use Rattle.query_validation.specs.Contexts.{as_context}
use Rattle.query_validation.specs.declared.rules.TheConstants.{QUERY_RULES}

abbrev pub invariant-loop-rule : goal.invariant-loop-rule
invariant-loop-rule l =
    map as_breach l.found.items
    ≡ map as_breach l.fn.found.items
    ++ flat_map
    (λ rule.
    breaches_of (types l.schema) rule (as_context l.contexts.around) (as_context l.contexts.inside) (as_located l.site))
    (take l.rule-index QUERY_RULES)
