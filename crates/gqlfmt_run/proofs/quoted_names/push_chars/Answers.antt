use Rattle.std.proofs.lemmas.Str.{IsUtf8-past_char}
use Rattle.gqlfmt_run.proofs.Quotes.{ended, one-more}
use Rattle.gqlfmt_run.proofs.quoted_names.push_chars.Goals as goal

pub loop-c-preserved : goal.loop-c-preserved
loop-c-preserved g c =
    let begins = c.in-Some.ensures.steps.0 in (
      IsUtf8-past_char _ _ c.in-Some.c c.loop-c.invariant.0 begins,
      one-more _ _ _ _ _ c.in-Some.c c.loop-c.invariant.0 begins c.in_ok-push_char.ensures c.loop-c.invariant.1,
    )

pub returns : goal.returns
returns g c = ended _ _ _ c.in-None.ensures.steps.0.0 c.loop-c.invariant.1
