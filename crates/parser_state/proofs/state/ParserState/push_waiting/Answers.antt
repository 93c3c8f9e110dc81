use Rattle.std.proofs.Common.{◌<◌, ◌^◌, [], map, sym, subst}
use Rattle.document_grammar.specs.Builds.{Building}
use Rattle.apollo_lexer.specs.Answers.{answers_left}
use Rattle.parser_state.proofs.Lengths.{alone-fits, after-leaf, after-drop, room-built}
use Rattle.parser_state.proofs.state.ParserState.push_waiting.Goals as goal
use Rattle.parser_state.specs.Lengths.{text_length}
use Rattle.parser_state.specs.View.{current_of, pending_of}

pub token-requires : goal.token-requires
token-requires g c =
    room-built _ _ _ _ _ (alone-fits _ _ _ _ _ _ c.as_slice.ensures.value c.in-len1.len_at_least
    c.in-len1.len_below c.self.invariant.1)

-- the token is taken in
pub invariant_of-self-in-len1 : goal.invariant_of-self-in-len1
invariant_of-self-in-len1 g c =
    let n = alone-fits _ _ _ _ _ _ c.as_slice.ensures.value c.in-len1.len_at_least
    c.in-len1.len_below c.self.invariant.1 in (
      c.self.invariant.0,
      after-drop _ _ _ _ _ c.clear.ensures.items
          (after-leaf _ _ _ _ [] _ _ c.in_ok-token.ensures.ok n),
    )

-- memory is refused, and the token is lost
pub invariant_of-self : goal.invariant_of-self
invariant_of-self g c =
    let m = subst (λ (b : Building). text_length b (map pending_of c.self.inside.pending.items)
    (current_of c.self.inside.current_token)
    (answers_left c.self.inside.reader.lexer) < 2 ^ 64) (sym c.in_err-token.ensures.err) c.self.invariant.1 in
    (c.self.invariant.0, after-drop _ _ _ _ _ c.clear.ensures.items m)
