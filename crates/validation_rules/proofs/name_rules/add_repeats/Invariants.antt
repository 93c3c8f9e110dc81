use Rattle.std.proofs.Common.{length, map, take}
use Rattle.std.specs.List.{flat_map, range_with_len}
use Rattle.validation_names.specs.Mentions.{as_named}
use Rattle.validation_names.specs.Names.{AreFirstNumbers}
use Rattle.validation_rules.proofs.name_rules.add_repeats.Given as goal
use Rattle.validation_rules.specs.Broken.{repeat_at}
use Rattle.validation_rules.specs.Parts.{names}
use Rattle.validation_rules.specs.Violations.{Adds}

abbrev pub invariant-loop-number : goal.invariant-loop-number
invariant-loop-number l = record {
  first : AreFirstNumbers l.numbers (names (take l.number (map as_named l.items)));
  adds :
      Adds (flat_map (repeat_at l.rule (map as_named l.items))
      (take l.number (range_with_len 0 (length (map as_named l.items))))) l.initial.violations
      l.violations;
}
