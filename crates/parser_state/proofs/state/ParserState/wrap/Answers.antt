use Rattle.parser_state.proofs.Lengths.{after-wrap}
use Rattle.parser_state.proofs.state.ParserState.wrap.Goals as goal

pub invariant_of-self-2 : goal.invariant_of-self-2
invariant_of-self-2 g c = (
  c.self.invariant.0,
  after-wrap c.args.checkpoint.index c.args.kind _ _ _ _ _ c.in_ok-wrap.ensures.ok c.self.invariant.1,
)
