use Rattle.std.proofs.Common.{◌≡◌, false, map, not, take}
use Rattle.std.specs.List.{list_any}
use Rattle.validation_names.specs.Mentions.{Named, as_named}
use Rattle.variable_rules.proofs.used_names.has_unknown.Given as goal
use Rattle.variable_rules.specs.UsedNames.{is_known}

abbrev pub invariant-loop-item : goal.invariant-loop-item
invariant-loop-item l =
    list_any (λ (i : Named). not (is_known l.known i.name)) (take l.item-index (map as_named l.items)) ≡ false
