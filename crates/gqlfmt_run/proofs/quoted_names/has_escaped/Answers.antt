use Rattle.std.proofs.Common.{sym}
use Rattle.std.proofs.lemmas.Str.{IsUtf8-past_char}
use Rattle.gqlfmt_run.proofs.Quotes.{any-ended, any-found, any-later}
use Rattle.gqlfmt_run.proofs.quoted_names.has_escaped.Goals as goal

pub loop-c-preserved : goal.loop-c-preserved
loop-c-preserved c =
    let begins = c.in-Some.ensures.steps.0 in (
      IsUtf8-past_char _ _ c.in-Some.c c.loop-c.invariant.0 begins,
      any-later _ _ _ c.in-Some.c c.loop-c.invariant.0 begins (sym c.is_escaped.ensures)
          c.if-is_escaped.false c.loop-c.invariant.1,
    )

pub returns-then-is_escaped : goal.returns-then-is_escaped
returns-then-is_escaped c =
    any-found _ _ _ c.in-Some.c c.loop-c.invariant.0 c.in-Some.ensures.steps.0 (sym c.is_escaped.ensures)
    c.if-is_escaped.true c.loop-c.invariant.1

pub returns : goal.returns
returns c = any-ended _ _ c.in-None.ensures.steps.0.0 c.loop-c.invariant.1
