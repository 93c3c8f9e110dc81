use Rattle.std.proofs.Common.{◌<◌, map, length, get_or, subst}
use Rattle.std.proofs.lemmas.List.{length-map}
use Rattle.std.proofs.lemmas.List.Elements.{Contains-get_or}
use Rattle.std.specs.List.{Contains}
use Rattle.validation_rules.proofs.SpreadLemmas.{operations_inside}
use Rattle.validation_rules.specs.Parts.{as_parts}
use Rattle.document_validation.proofs.validation.operation_site.Goals as goal

pub part_at-requires : goal.part_at-requires
part_at-requires c =
    let numbers = c.args.numbers.now in
    let k = c.in_ok-number.field-0 in
    let below : k < length numbers = rw c.in_ok-number.was at c.requires.inside in
    let there = subst (λ ns. Contains ns (get_or numbers k 0)) c.requires.numbers (Contains-get_or numbers k 0 below) in
    rw length-map at (operations_inside (map as_parts c.args.parts.now) (get_or numbers k 0) there)
