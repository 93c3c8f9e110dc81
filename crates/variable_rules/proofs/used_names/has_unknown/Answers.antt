use Rattle.std.proofs.Common.{◌≡◌, ◌<◌, arith, length, map, not, true, false, sym, ap, ◌∙◌}
use Rattle.std.proofs.Math.ListN.{get_or-map}
use Rattle.std.proofs.Math.Seq.{take-length}
use Rattle.std.proofs.lemmas.Bool.{not_from_false, not_from_true, or_from}
use Rattle.std.proofs.lemmas.List.{length-map}
use Rattle.std.proofs.lemmas.List.Folds.{list_any_at, list_any_more}
use Rattle.validation_names.specs.Mentions.{Named, as_named}
use Rattle.variable_rules.proofs.used_names.has_unknown.Goals as goal
use Rattle.variable_rules.specs.UsedNames.{is_known}

pub loop-item-preserved : goal.loop-item-preserved
loop-item-preserved c =
    let items = map as_named c.args.items.now in
    let k = c.loop-item.item-index in
    let item = c.item-item.result in
    let knows = is_known c.args.known.now in
    let fails = λ (i : Named). not (knows i.name) in
    let below : k < length items = rw length-map c.loop-item-test.true in
    let same = get_or-map as_named c.args.items.now k item ∙ ap as_named (sym c.item-item.is) in
    let known : knows item.name.now ≡ true = sym c.is_entered.ensures ∙ c.if-not-is_entered.false in
    list_any_more fails items k (as_named item) below
    ∙ or_from _ _ c.loop-item.invariant (ap fails same ∙ not_from_true (knows item.name.now) known)

pub returns-then-not-is_entered : goal.returns-then-not-is_entered
returns-then-not-is_entered c =
    let items = map as_named c.args.items.now in
    let k = c.loop-item.item-index in
    let item = c.item-item.result in
    let knows = is_known c.args.known.now in
    let fails = λ (i : Named). not (knows i.name) in
    let below : k < length items = rw length-map c.loop-item-test.true in
    let same = get_or-map as_named c.args.items.now k item ∙ ap as_named (sym c.item-item.is) in
    let unknown : knows item.name.now ≡ false = sym c.is_entered.ensures ∙ c.if-not-is_entered.true in
    sym (list_any_at fails items k (as_named item) below (ap fails same ∙ not_from_false (knows item.name.now) unknown))

pub returns : goal.returns
returns c =
    let items = map as_named c.args.items.now in
    let end : c.loop-item.item-index ≡ length items = simp length-map (omega arith) in
    sym (rw (end, take-length) at c.loop-item.invariant)
