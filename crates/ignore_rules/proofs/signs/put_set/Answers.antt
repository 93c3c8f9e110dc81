use Rattle.std.proofs.Common.{sym}
use Rattle.std.proofs.lemmas.List.{take_rest}
use Rattle.ignore_rules.proofs.ReadingLemmas.{inverse_closed, joined_nil, set_closed}
use Rattle.ignore_rules.proofs.signs.put_set.Goals as goal

pub returns-in-Some : goal.returns-in-Some
returns-in-Some g c =
    let found = rw (c.new-ranges.ensures.items, take_rest) at (rw c.in-Some.is at c.in_ok-after.ensures) in
    rw (inverse_closed c.args.text.now _ (sym c.if-is_inverse.ensures.value) (joined_nil _ _ found)) c.put.ensures

pub returns-in-Some-2 : goal.returns-in-Some-2
returns-in-Some-2 g c =
    let found = rw c.new-ranges.ensures.items at (rw c.in-Some-2.is at c.in_ok-after-2.ensures) in
    rw (set_closed c.args.text.now _ (sym c.if-is_inverse.ensures.value) (joined_nil _ _ found)) c.put-in-Some-2.ensures
