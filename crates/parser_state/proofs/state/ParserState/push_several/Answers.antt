use Rattle.std.proofs.Common.{◌+◌, ◌<◌, ◌≤◌, ◌^◌, sym, subst, map, length, List}
use Rattle.document_grammar.specs.Builds.{built_text}
use Rattle.parser_state.proofs.Lengths.{room-all, after-all}
use Rattle.parser_state.proofs.state.ParserState.push_several.Goals as goal
use Rattle.parser_state.specs.Lengths.{pending_length}
use Rattle.parser_state.specs.View.{pending_of}
use Rattle.parser_state.specs.declared.state.PendingToken.{PendingToken}

pub push_all-pushed-requires : goal.push_all-pushed-requires
push_all-pushed-requires g c =
    subst (λ (ps : List PendingToken). length (built_text c.self.inside.builder) + pending_length (map pending_of ps)
    < 2 ^ 64) (sym c.deref.ensures.value)
    (room-all _ _ _ _ c.self.invariant.1)

pub invariant_of-self : goal.invariant_of-self
invariant_of-self g c =
    let le = subst (λ (ps : List PendingToken). length (built_text c.push_all-pushed.new.builder)
    ≤ length (built_text c.self.inside.builder) + pending_length
    (map pending_of ps)) c.deref.ensures.value c.push_all-pushed.ensures.len in
    (c.self.invariant.0, after-all _ _ _ _ _ _ le c.clear.ensures.items c.self.invariant.1)
