use Rattle.std.proofs.lemmas.Str.{IsUtf8-past_char}
use Rattle.marked_lines.proofs.Showing.{ended, one-more}
use Rattle.marked_lines.proofs.escapes.push_escaped.Goals as goal

pub loop-c-preserved : goal.loop-c-preserved
loop-c-preserved g c =
    let begins = c.in-Some.ensures.steps.0 in (
      IsUtf8-past_char _ _ c.in-Some.c c.loop-c.invariant.0 begins,
      one-more _ _ _ _ _ c.in-Some.c c.loop-c.invariant.0 begins c.in_ok-push_shown.ensures c.loop-c.invariant.1,
    )

pub returns : goal.returns
returns g c = ended _ _ _ c.in-None.ensures.steps.0.0 c.loop-c.invariant.1
