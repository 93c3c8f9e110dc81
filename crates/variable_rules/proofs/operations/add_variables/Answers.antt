use Rattle.std.proofs.Common.{get_or, map, subst}
use Rattle.std.proofs.lemmas.List.{length-map}
use Rattle.std.proofs.lemmas.List.Elements.{Contains-get_or}
use Rattle.std.specs.List.{Contains}
use Rattle.validation_rules.proofs.SpreadLemmas.{operations_inside}
use Rattle.validation_rules.specs.Parts.{as_parts}
use Rattle.variable_rules.proofs.operations.add_variables.Goals as goal

pub add_operations-requires-clause-operations : goal.add_operations-requires-clause-operations
add_operations-requires-clause-operations c k d below =
    let number = get_or c.args.operations.now k d in
    let there = subst (λ numbers. Contains numbers number) c.requires.operations
    (Contains-get_or c.args.operations.now k d below) in
    rw length-map at (operations_inside (map as_parts c.args.parts.now) number there)
