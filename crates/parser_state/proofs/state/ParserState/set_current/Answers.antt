use Rattle.std.proofs.Common.{◌+◌, ◌<◌, ◌^◌, None, sym, subst}
use Rattle.parser_rules.specs.State.{State}
use Rattle.parser_state.proofs.Lengths.{with-current}
use Rattle.parser_state.proofs.state.ParserState.set_current.Goals as goal
use Rattle.parser_state.specs.Lengths.{current_length, text_length}
use Rattle.parser_state.specs.View.{current_of}

pub invariant_of-self : goal.invariant_of-self
invariant_of-self g c =
    let n = subst (λ (s : State). current_length (current_of c.args.token) + text_length s.tree s.pending None s.items
    < 2 ^ 64)
    (sym c.self.view_is) c.requires.len in
    (c.requires.text, with-current _ _ _ _ n)
