use Rattle.parser_state.proofs.Lengths.{after-start}
use Rattle.parser_state.proofs.state.ParserState.start_node.Goals as goal

pub invariant_of-self-2 : goal.invariant_of-self-2
invariant_of-self-2 g c =
    (c.self.invariant.0, after-start c.args.kind _ _ _ _ _ c.in_ok-start_node.ensures.ok c.self.invariant.1)
