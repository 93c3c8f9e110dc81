use Rattle.std.proofs.Common.{◌+◌, ◌<◌, ◌^◌, length, None, sym, subst}
use Rattle.parser_rules.specs.State.{State}
use Rattle.parser_state.proofs.Lengths.{room-built, after-leaf_node, after-failed_node}
use Rattle.parser_state.proofs.state.ParserState.push_leaf_node.Goals as goal
use Rattle.parser_state.specs.Lengths.{text_length}

pub leaf_node-requires-clause-len : goal.leaf_node-requires-clause-len
leaf_node-requires-clause-len g c =
    room-built _ _ _ _ _ (subst
    (λ (s : State). length c.args.text.now + text_length s.tree s.pending None s.items < 2 ^ 64)
    (sym c.self.view_is) c.requires.len)

pub invariant_of-self : goal.invariant_of-self
invariant_of-self g c =
    (c.self.invariant.0, after-failed_node c.args.node _ _ _ _ _ c.in_err-leaf_node.ensures.err c.self.invariant.1)

pub invariant_of-self-2 : goal.invariant_of-self-2
invariant_of-self-2 g c =
    let n = subst (λ (s : State). length c.args.text.now + text_length s.tree s.pending None s.items < 2 ^ 64)
    (sym c.self.view_is) c.requires.len in (
      tt,
      after-leaf_node c.args.node c.args.leaf c.args.text.now _ _ _ _ _ c.requires.leaf
          c.in_ok-leaf_node.ensures.ok n,
    )
