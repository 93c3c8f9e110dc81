use Rattle.std.proofs.Common.{◌≡◌, ◌++◌, List, arith, length, map, take, ap, sym, subst, ◌∙◌}
use Rattle.std.proofs.Math.Seq.{take-length}
use Rattle.std.specs.List.{flat_map}
use Rattle.validation_names.specs.Mentions.{Named, as_named}
use Rattle.variable_rules.proofs.KnownLemmas.{no_firsts}
use Rattle.variable_rules.proofs.WalkLemmas.{flat_more}
use Rattle.variable_rules.proofs.used_names.names_among.Goals as goal
use Rattle.variable_rules.specs.UsedNames.{AreFirsts, row_at}

pub loop-number-init : goal.loop-number-init
loop-number-init c = no_firsts c.new-known.result _ c.new-known.ensures.empty
    (ap (map as_named) c.new-items.ensures.items)

pub loop-number-preserved : goal.loop-number-preserved
loop-number-preserved c =
    let names = c.args.names.now in
    let numbers = c.args.numbers.now in
    let k = c.loop-number.number-index in
    let before = flat_map (row_at names) (take k numbers) in
    let step = ap (λ (xs : List Named). before ++ xs) c.row.ensures
    ∙ sym (flat_more (row_at names) numbers k 0 c.loop-number-test.true) in
    subst (λ xs. AreFirsts c.enter_firsts.new.known (map as_named c.enter_firsts.new.firsts.items) xs) step
    (c.in_ok-enter_firsts.ensures before c.loop-number.invariant)

pub returns : goal.returns
returns c =
    let end : c.loop-number.number-index ≡ length c.args.numbers.now = omega arith in
    rw (end, take-length) at c.loop-number.invariant
