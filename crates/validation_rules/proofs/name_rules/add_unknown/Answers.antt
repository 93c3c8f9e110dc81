use Rattle.std.proofs.Common.{arith, map}
use Rattle.std.proofs.lemmas.List.{length-map}
use Rattle.validation_names.specs.Mentions.{as_named}
use Rattle.validation_rules.proofs.AddLemmas.{adds_all, adds_rest, is_full, next_of}
use Rattle.validation_rules.proofs.name_rules.add_unknown.Goals as goal

pub loop-item-preserved : goal.loop-item-preserved
loop-item-preserved g c =
    next_of _ as_named c.args.items.now c.loop-item.item-index c.item-item.result _ _ _ c.loop-item-test.true
    c.item-item.is c.loop-item.invariant
    c.in_ok-add_if_unknown.ensures

pub returns-then-is_full : goal.returns-then-is_full
returns-then-is_full g c =
    adds_rest _ (map as_named c.args.items.now) c.loop-item.item-index _ c.loop-item.violations
    (is_full c.loop-item.violations c.if-is_full.ensures)
    c.loop-item.invariant

pub returns : goal.returns
returns g c = adds_all _ (map as_named c.args.items.now) c.loop-item.item-index _ _
    (rw length-map (omega arith)) c.loop-item.invariant
