use Rattle.std.proofs.Common.{refl, rules, subst, sym}
use Rattle.editor_text.proofs.SoFar.{AreSoFar, finished, none_yet, one_more}
use Rattle.editor_text.proofs.differences.edits.Goals as goal

pub loop-line-init : goal.loop-line-init
loop-line-init c = subst (AreSoFar c.args.old.now c.args.new.now 0 0) (sym c.new-edits.ensures.items)
    (none_yet _ _ c.utf8.old c.utf8.new)

pub loop-line-preserved : goal.loop-line-preserved
loop-line-preserved c =
    subst (AreSoFar c.args.old.now c.args.new.now c.step_after-step.result.end c.step_after-step.result.text_end)
    (sym c.in_ok-push.ensures.items)
    (one_more _ _ _ _ _ _ _ c.loop-line.invariant c.step_after-step.ensures refl refl
    c.range.ensures.value c.range.utf8)

pub returns : goal.returns
returns c = finished _ _ _ _ _ c.loop-line.invariant (search rules)
