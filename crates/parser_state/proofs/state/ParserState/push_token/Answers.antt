use Rattle.std.proofs.Common.{◌+◌, ◌<◌, ◌^◌, length, None, sym, subst}
use Rattle.parser_rules.specs.State.{State}
use Rattle.parser_state.proofs.Lengths.{room-built, after-leaf}
use Rattle.parser_state.proofs.state.ParserState.push_token.Goals as goal
use Rattle.parser_state.specs.Lengths.{text_length}

pub token-requires : goal.token-requires
token-requires g c =
    room-built _ _ _ _ _ (subst
    (λ (s : State). length c.args.text.now + text_length s.tree s.pending None s.items < 2 ^ 64)
    (sym c.self.view_is) c.requires)

pub invariant_of-self-2 : goal.invariant_of-self-2
invariant_of-self-2 g c =
    let n = subst (λ (s : State). length c.args.text.now + text_length s.tree s.pending None s.items < 2 ^ 64)
    (sym c.self.view_is) c.requires in
    (tt, after-leaf c.args.kind c.args.text.now _ _ _ _ _ c.in_ok-token.ensures.ok n)
