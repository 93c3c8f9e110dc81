use Rattle.std.proofs.Common.{◌+◌, ◌<◌, ◌^◌, length, sym, subst}
use Rattle.parser_rules.specs.State.{State}
use Rattle.parser_state.proofs.Lengths.{after-wait}
use Rattle.parser_state.proofs.state.ParserState.wait.Goals as goal
use Rattle.parser_state.specs.Lengths.{length_of}

pub invariant_of-self-2 : goal.invariant_of-self-2
invariant_of-self-2 g c =
    let n = subst (λ (s : State). length c.args.text.now + length_of s < 2 ^ 64) (sym c.self.view_is) c.requires in (
      c.self.invariant.0,
      after-wait _ _ _ (record { kind = c.args.kind; text = c.args.text }) _ _
          c.in_ok-push.ensures.items n,
    )
