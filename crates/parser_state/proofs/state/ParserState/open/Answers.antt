use Rattle.std.proofs.Common.{◌∙◌, ap}
use Rattle.document_grammar.specs.Builds.{start}
use Rattle.parser_state.proofs.Lengths.{after-start}
use Rattle.parser_state.proofs.state.ParserState.open.Goals as goal

pub invariant_of-self-2 : goal.invariant_of-self-2
invariant_of-self-2 g c = (
  c.self.invariant.0,
  after-start c.args.root _ _ _ _ _ (c.in_ok-start_node.ensures.ok ∙ ap (start c.args.root) c.reserve_for.ensures)
      c.self.invariant.1,
)
