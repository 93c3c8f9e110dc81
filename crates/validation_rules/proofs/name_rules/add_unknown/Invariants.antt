use Rattle.std.proofs.Common.{is_some, map, option_map, take}
use Rattle.std.specs.List.{flat_map}
use Rattle.validation_names.specs.Mentions.{as_named}
use Rattle.validation_names.specs.Names.{entry_of}
use Rattle.validation_names.specs.Sites.{as_located}
use Rattle.validation_rules.proofs.name_rules.add_unknown.Given as goal
use Rattle.validation_rules.specs.Broken.{unknown_item}
use Rattle.validation_rules.specs.Violations.{Adds}

abbrev pub invariant-loop-item : goal.invariant-loop-item
invariant-loop-item g l =
    Adds (flat_map (unknown_item l.rule (option_map as_located l.other) (λ name. is_some (entry_of l.known name)))
    (take l.item-index (map as_named l.items))) l.initial.violations l.violations
