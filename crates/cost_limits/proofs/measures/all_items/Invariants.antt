use Rattle.std.proofs.Common.{◌≡◌, map, take}
use Rattle.validation_names.specs.Sites.{as_located}
use Rattle.cost_limits.proofs.measures.all_items.Given as goal
use Rattle.cost_limits.specs.Collecting.{number_of}
use Rattle.cost_limits.specs.Items.{definition_items}

abbrev pub invariant-loop-definition : goal.invariant-loop-definition
invariant-loop-definition g l =
    map (λ items. items.items) l.found.items
    ≡ map (λ d. definition_items l.introspection (number_of l.fragments) (as_located d.site))
    (take l.definition-index l.definitions)
