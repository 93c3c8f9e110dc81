use Rattle.std.proofs.Common.{◌≡◌, suc, ◌+◌, ◌-◌, length, arith, sym, ◌∙◌}
use Rattle.std.proofs.lemmas.List.{nil_from_length}
use Rattle.ignore_rules.proofs.ReadingLemmas.{sign_more, sign_none}
use Rattle.ignore_rules.proofs.signs.read_signs.Goals as goal

pub returns-in_default : goal.returns-in_default
returns-in_default g c =
    let more : length c.args.text.now - c.loop-done.done ≡ suc (length c.args.text.now - (c.loop-done.done + 1)) =
    omega arith in
    sym ((rw more at c.loop-done.invariant)
    ∙ sign_none (length c.args.text.now - (c.loop-done.done + 1)) c.loop-done.begins c.loop-done.rest.now _
    (nil_from_length _ c.in_default.ensures.cases))

pub loop-done-preserved : goal.loop-done-preserved
loop-done-preserved g c =
    let more : length c.args.text.now - c.loop-done.done ≡ suc (length c.args.text.now - (c.loop-done.done + 1)) =
    omega arith in
    (rw more at c.loop-done.invariant)
    ∙ sign_more (length c.args.text.now - (c.loop-done.done + 1)) c.loop-done.begins c.loop-done.rest.now _ _ _ _ _ _
    c.in-Some.ensures.cases.0
    c.in_ok-begins.ensures
