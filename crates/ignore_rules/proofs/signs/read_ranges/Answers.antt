use Rattle.std.proofs.Common.{◌≡◌, suc, ◌+◌, ◌-◌, arith, sym, ◌∙◌}
use Rattle.ignore_rules.proofs.ReadingLemmas.{not_joined, range_last, range_more, range_none}
use Rattle.ignore_rules.proofs.signs.read_ranges.Goals as goal

pub returns-in-Some : goal.returns-in-Some
returns-in-Some g c =
    let more : c.args.most - c.loop-done.done ≡ suc (c.args.most - (c.loop-done.done + 1)) = omega arith in
    rw c.in-Some.ensures.1
    ((rw more at c.loop-done.invariant)
    ∙ range_last (c.args.most - (c.loop-done.done + 1)) c.loop-done.closes c.loop-done.rest.now
    c.loop-done.ranges.items c.in-Some.ensures.0)

pub returns-in_default-range_in : goal.returns-in_default-range_in
returns-in_default-range_in g c =
    let more : c.args.most - c.loop-done.done ≡ suc (c.args.most - (c.loop-done.done + 1)) = omega arith in
    let none = range_none (c.args.most - (c.loop-done.done + 1)) c.loop-done.closes
    c.loop-done.rest.now c.in_default.ensures
    (sym c.in_default-range_in.ensures) in
    not_joined _ _ (rw none at (rw more at c.loop-done.invariant))

pub loop-done-preserved : goal.loop-done-preserved
loop-done-preserved g c =
    let more : c.args.most - c.loop-done.done ≡ suc (c.args.most - (c.loop-done.done + 1)) = omega arith in
    rw c.in_ok-push.ensures.items
    ((rw more at c.loop-done.invariant)
    ∙ range_more (c.args.most - (c.loop-done.done + 1)) c.loop-done.closes c.loop-done.rest.now _
    c.loop-done.ranges.items c.in_default.ensures
    (sym c.in-Some-range_in.ensures))
