use Rattle.std.proofs.Common.{◌≡◌, ◌<◌, ◌≤◌, arith, length, map, take, sym, ◌∙◌, ap}
use Rattle.std.proofs.lemmas.List.{length-map}
use Rattle.std.specs.List.{range_with_len}
use Rattle.validation_names.specs.Mentions.{as_named}
use Rattle.validation_names.specs.Names.{first_number}
use Rattle.validation_rules.proofs.AddLemmas.{adds_rest, all_numbers, is_full, next_number}
use Rattle.validation_rules.proofs.NameLemmas.{below_of, item_read, names_more}
use Rattle.validation_rules.proofs.name_rules.add_repeats.Goals as goal
use Rattle.validation_rules.specs.Broken.{repeat_at}
use Rattle.validation_rules.specs.Parts.{item_at, names}

pub add_if_repeated-requires-clause-first : goal.add_if_repeated-requires-clause-first
add_if_repeated-requires-clause-first c =
    let items = map as_named c.args.items.now in
    let n = c.loop-number.number in
    let le : n ≤ length items = rw length-map (omega arith) in
    below_of items n c.index-items-number.result.name.now _ le
    (sym (c.loop-number.invariant.first c.index-items-number.result.name.now) ∙ sym c.in_ok-first.ensures.earlier)

pub loop-number-preserved : goal.loop-number-preserved
loop-number-preserved c =
    let items = map as_named c.args.items.now in
    let n = c.loop-number.number in
    let below : n < length items = rw length-map c.loop-number-test.true in
    let read = item_read c.args.items.now n c.index-items-number.result c.loop-number-test.true
    c.index-items-number.is in
    let inv = c.loop-number.invariant in
    let name = c.index-items-number.result.name.now in
    let first : c.in_ok-first.first ≡ first_number (names (take n items)) (item_at items n).name =
    c.in_ok-first.ensures.earlier ∙ inv.first name ∙ ap (λ i. first_number (names (take n items)) i.name) (sym read) in
    record {
      first = names_more c.loop-number.numbers c.enter.new.entries items n below inv.first
          (rw read c.in_ok-first.ensures.entered);
      adds = next_number (repeat_at c.args.rule items) (length items) n _ _ _ below inv.adds
          (rw first at c.in_ok-add_if_repeated.ensures);
    }

pub returns-then-is_full : goal.returns-then-is_full
returns-then-is_full c =
    let items = map as_named c.args.items.now in
    let violations = c.loop-number.violations in
    adds_rest (repeat_at c.args.rule items) (range_with_len 0 (length items)) c.loop-number.number _ violations
    (is_full violations c.if-is_full.ensures) c.loop-number.invariant.adds

pub returns : goal.returns
returns c =
    let items = map as_named c.args.items.now in
    let end : length items ≤ c.loop-number.number = rw length-map (omega arith) in
    all_numbers (repeat_at c.args.rule items) (length items) c.loop-number.number _ _ end c.loop-number.invariant.adds
