use Rattle.parser_state.proofs.Lengths.{after-drop}
use Rattle.parser_state.proofs.state.ParserState.drop_pending.Goals as goal

pub invariant_of-self : goal.invariant_of-self
invariant_of-self g c = (c.self.invariant.0, after-drop _ _ _ _ _ c.clear.ensures.items c.self.invariant.1)
