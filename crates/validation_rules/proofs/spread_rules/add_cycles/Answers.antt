use Rattle.std.proofs.Common.{◌≤◌, None, arith, get_or, length, map, ◌∙◌}
use Rattle.std.proofs.lemmas.List.{length-map}
use Rattle.validation_rules.proofs.AddLemmas.{adds_rest, all_numbers, is_full, next_number}
use Rattle.validation_rules.proofs.SpreadLemmas.{cycle_read, long_returns, return_inside}
use Rattle.validation_rules.proofs.spread_rules.add_cycles.Goals as goal
use Rattle.validation_rules.specs.Broken.{on_cycle_at}
use Rattle.validation_rules.specs.Parts.{as_parts, numbers}

pub add_if_on_cycle-requires-clause-number : goal.add_if_on_cycle-requires-clause-number
add_if_on_cycle-requires-clause-number c =
    let same = c.deref-other-items.ensures.value ∙ c.in_ok-found.ensures in
    let long = long_returns (map as_parts c.args.parts.now) c.args.graph.now c.deref-other-items.result.now
    c.requires.graph same in
    rw length-map at (rw long at c.loop-number-test.true)

pub add_if_on_cycle-requires-clause-other : goal.add_if_on_cycle-requires-clause-other
add_if_on_cycle-requires-clause-other c =
    let ds = map as_parts c.args.parts.now in
    let n = c.loop-number.number in
    let same = c.deref-other-items.ensures.value ∙ c.in_ok-found.ensures in
    let inside = rw (long_returns ds c.args.graph.now c.deref-other-items.result.now c.requires.graph same) at
    c.loop-number-test.true in
    let read = cycle_read ds c.args.graph.now c.deref-other-items.result.now n c.requires.graph same inside in
    rw length-map at (return_inside ds _ n (get_or c.deref-other-items.result.now n None) read)

pub loop-number-preserved : goal.loop-number-preserved
loop-number-preserved c =
    let ds = map as_parts c.args.parts.now in
    let n = c.loop-number.number in
    let same = c.deref-other-items.ensures.value ∙ c.in_ok-found.ensures in
    let inside = rw (long_returns ds c.args.graph.now c.deref-other-items.result.now c.requires.graph same) at
    c.loop-number-test.true in
    let read = cycle_read ds c.args.graph.now c.deref-other-items.result.now n c.requires.graph same inside in
    next_number (on_cycle_at ds) (length ds) n _ _ _ inside c.loop-number.invariant
    (rw read at c.in_ok-add_if_on_cycle.ensures)

pub returns-then-is_full : goal.returns-then-is_full
returns-then-is_full c =
    let ds = map as_parts c.args.parts.now in
    let violations = c.loop-number.violations in
    adds_rest (on_cycle_at ds) (numbers ds) c.loop-number.number _ violations (is_full violations c.if-is_full.ensures)
    c.loop-number.invariant

pub returns : goal.returns
returns c =
    let ds = map as_parts c.args.parts.now in
    let same = c.deref-other-items.ensures.value ∙ c.in_ok-found.ensures in
    let long = long_returns ds c.args.graph.now c.deref-other-items.result.now c.requires.graph same in
    let end : length ds ≤ c.loop-number.number = rw (← long) (omega arith) in
    all_numbers (on_cycle_at ds) (length ds) c.loop-number.number _ _ end c.loop-number.invariant
