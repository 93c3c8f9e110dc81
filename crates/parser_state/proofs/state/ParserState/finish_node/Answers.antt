use Rattle.std.proofs.Common.{sym, subst}
use Rattle.parser_rules.specs.Open.{IsOpen}
use Rattle.parser_rules.specs.State.{State}
use Rattle.parser_state.proofs.Building.{free-fits}
use Rattle.parser_state.proofs.Lengths.{after-finish}
use Rattle.parser_state.proofs.state.ParserState.finish_node.Goals as goal

pub finish_node-requires : goal.finish_node-requires
finish_node-requires g c =
    free-fits c.self.inside.builder (subst (λ (s : State). IsOpen s.tree) (sym c.self.view_is) c.requires)

pub invariant_of-self : goal.invariant_of-self
invariant_of-self g c =
    let h = free-fits c.self.inside.builder (subst (λ (s : State). IsOpen s.tree) (sym c.self.view_is) c.requires) in
    (c.self.invariant.0, after-finish _ _ _ _ _ c.finish_node.ensures.after h c.self.invariant.1)
