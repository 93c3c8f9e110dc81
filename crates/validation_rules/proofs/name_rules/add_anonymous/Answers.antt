use Rattle.std.proofs.Common.{◌<◌, arith, get_or, map, length, subst}
use Rattle.std.proofs.lemmas.List.{get_or_default, length-map}
use Rattle.std.proofs.lemmas.List.Elements.{Contains-get_or}
use Rattle.std.specs.List.{Contains}
use Rattle.validation_rules.proofs.AddLemmas.{adds_all, adds_next, adds_rest, is_full}
use Rattle.validation_rules.proofs.SpreadLemmas.{operations_inside}
use Rattle.validation_rules.proofs.name_rules.add_anonymous.Goals as goal
use Rattle.validation_rules.specs.Broken.{not_alone_at}
use Rattle.validation_rules.specs.Parts.{as_parts}

pub add_if_not_alone-requires-clause-number : goal.add_if_not_alone-requires-clause-number
add_if_not_alone-requires-clause-number c =
    let number = get_or c.args.numbers.now c.loop-number.number-index 0 in
    let there = Contains-get_or c.args.numbers.now c.loop-number.number-index 0 c.loop-number-test.true in
    let inside : number < length (map as_parts c.args.parts.now) =
    operations_inside (map as_parts c.args.parts.now) number
    (subst (λ numbers. Contains numbers number) c.requires there) in
    rw length-map at inside

pub loop-number-preserved : goal.loop-number-preserved
loop-number-preserved c =
    let numbers = c.args.numbers.now in
    let i = c.loop-number.number-index in
    adds_next (not_alone_at (map as_parts c.args.parts.now)) numbers i (get_or numbers i 0) _ _ _
    c.loop-number-test.true
    (get_or_default numbers i 0 (get_or numbers i 0) c.loop-number-test.true) c.loop-number.invariant
    c.in_ok-add_if_not_alone.ensures

pub returns-then-is_full : goal.returns-then-is_full
returns-then-is_full c =
    let violations = c.loop-number.violations in
    rw (← c.requires)
    (adds_rest (not_alone_at (map as_parts c.args.parts.now)) c.args.numbers.now c.loop-number.number-index _ violations
    (is_full violations c.if-is_full.ensures) c.loop-number.invariant)

pub returns : goal.returns
returns c =
    rw (← c.requires)
    (adds_all (not_alone_at (map as_parts c.args.parts.now)) c.args.numbers.now c.loop-number.number-index _ _
    (omega arith) c.loop-number.invariant)
