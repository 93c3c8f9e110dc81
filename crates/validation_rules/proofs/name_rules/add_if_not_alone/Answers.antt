use Rattle.std.proofs.Common.{map, sym}
use Rattle.std.proofs.lemmas.List.{length-map}
use Rattle.validation_rules.proofs.SpreadLemmas.{find_has, operations_inside}
use Rattle.validation_rules.proofs.name_rules.add_if_not_alone.Goals as goal
use Rattle.validation_rules.specs.Parts.{as_parts}

pub part_at-requires : goal.part_at-requires
part_at-requires c =
    rw length-map at
    (operations_inside (map as_parts c.args.parts.now) _
    (rw c.requires.numbers at (find_has _ c.args.numbers.now c.in-Some.other (sym c.in-Some.ensures))))
