use Rattle.std.proofs.Common.{◌<◌, ◌≤◌, arith, length, map}
use Rattle.std.proofs.lemmas.List.{length-map}
use Rattle.validation_rules.proofs.AddLemmas.{adds_rest, all_numbers, is_full, next_number}
use Rattle.validation_rules.proofs.SpreadLemmas.{all_inside}
use Rattle.validation_rules.proofs.spread_rules.add_unused_fragments.Goals as goal
use Rattle.validation_rules.specs.Broken.{unused_fragment_at}
use Rattle.validation_rules.specs.Parts.{as_parts, numbers}

pub reached-requires-clause-starts : goal.reached-requires-clause-starts
reached-requires-clause-starts c =
    all_inside (map as_parts c.args.parts.now) c.args.graph.now c.args.numbers.now c.requires.graph c.requires.numbers

pub loop-number-preserved : goal.loop-number-preserved
loop-number-preserved c =
    let ds = map as_parts c.args.parts.now in
    let inside : c.loop-number.number < length ds = rw length-map c.loop-number-test.true in
    next_number (unused_fragment_at ds) (length ds) c.loop-number.number _ _ _ inside c.loop-number.invariant
    c.in_ok-add_if_unused.ensures

pub returns-then-is_full : goal.returns-then-is_full
returns-then-is_full c =
    let ds = map as_parts c.args.parts.now in
    let violations = c.loop-number.violations in
    adds_rest (unused_fragment_at ds) (numbers ds) c.loop-number.number _ violations
    (is_full violations c.if-is_full.ensures) c.loop-number.invariant

pub returns : goal.returns
returns c =
    let ds = map as_parts c.args.parts.now in
    let end : length ds ≤ c.loop-number.number = rw length-map (omega arith) in
    all_numbers (unused_fragment_at ds) (length ds) c.loop-number.number _ _ end c.loop-number.invariant
