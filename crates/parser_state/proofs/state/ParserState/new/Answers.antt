use Rattle.parser_state.proofs.Lengths.{begun-length}
use Rattle.parser_state.proofs.state.ParserState.new.Goals as goal

pub invariant_of-result : goal.invariant_of-result
invariant_of-result g c =
    (tt, begun-length c.args.lexer _ _ _ c.new.ensures.lexer c.new-2.ensures c.new-3.ensures.items)
