use Rattle.std.proofs.Common.{is_some, ◌≡◌, ◌<◌, ◌≤◌, arith, length, map, ◌∙◌, ap}
use Rattle.std.proofs.lemmas.List.{length-map}
use Rattle.validation_names.specs.Definitions.{fragment_names}
use Rattle.validation_names.specs.Mentions.{as_named}
use Rattle.validation_names.specs.Names.{AreFirstNumbers, entry_of}
use Rattle.validation_rules.proofs.AddLemmas.{adds_rest, all_numbers, is_full, next_number}
use Rattle.validation_rules.proofs.spread_rules.add_undefined_spreads.Goals as goal
use Rattle.validation_rules.specs.Broken.{undefined_spreads_at}
use Rattle.validation_rules.specs.Parts.{Parts, as_parts, definitions, is_fragment_name, numbers}

pub loop-number-preserved : goal.loop-number-preserved
loop-number-preserved c =
    let ds = map as_parts c.args.parts.now in
    let inside : c.loop-number.number < length ds = rw length-map c.loop-number-test.true in
    let are : AreFirstNumbers c.args.fragments.now (fragment_names (definitions ds)) = c.requires.fragments in
    let known : (λ name. is_some (entry_of c.args.fragments.now name)) ≡ is_fragment_name ds =
    λ i name. is_some (are name i) in
    let spreads = ap (map as_named) c.deref.ensures.value ∙ ap (λ (d : Parts). d.spreads) c.part_at.ensures in
    next_number (undefined_spreads_at ds) (length ds) c.loop-number.number _ _ _ inside c.loop-number.invariant
    (rw (known, spreads) at c.in_ok-add_unknown.ensures)

pub returns-then-is_full : goal.returns-then-is_full
returns-then-is_full c =
    let ds = map as_parts c.args.parts.now in
    let violations = c.loop-number.violations in
    adds_rest (undefined_spreads_at ds) (numbers ds) c.loop-number.number _ violations
    (is_full violations c.if-is_full.ensures) c.loop-number.invariant

pub returns : goal.returns
returns c =
    let ds = map as_parts c.args.parts.now in
    let end : length ds ≤ c.loop-number.number = rw length-map (omega arith) in
    all_numbers (undefined_spreads_at ds) (length ds) c.loop-number.number _ _ end c.loop-number.invariant
