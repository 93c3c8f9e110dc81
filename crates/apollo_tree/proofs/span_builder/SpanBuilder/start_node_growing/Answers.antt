use Rattle.std.proofs.Common.{[], ◌∷◌, ◌++◌, ◌∙◌, ap, refl}
use Rattle.apollo_tree.proofs.Steps.{holds, kept, built-is, start-table, moved}
use Rattle.apollo_tree.proofs.Written.{written-start}
use Rattle.apollo_tree.proofs.span_builder.SpanBuilder.start_node_growing.Goals as goal
use Rattle.apollo_tree.specs.Brackets.{written}

pub invariant_of-self-2 : goal.invariant_of-self-2
invariant_of-self-2 g c =
    let h = holds c.self.view_is c.self.invariant.0 in
    let t = start-table c.args.kind c.self.inside.len c.to_parent.result c.checkpoint-index.result.index
    h.parts c.self.invariant.1
    c.checkpoint-index.ensures.index c.to_parent.ensures.up in (
      kept (moved t (c.in_ok-push.ensures ∙ ap (λ r. c.self.inside.records ++ r ∷ []) c.node-node.ensures)
          (c.in_ok-push-2.ensures.items
          ∙ ap (λ ps. ps ++ c.checkpoint-index.result.index ∷ []) c.in_ok-reserve.ensures.items) refl)
          tt (h.here, h.above),
      c.self.invariant.1,
    )

pub returns-clause-ok : goal.returns-clause-ok
returns-clause-ok g c =
    let h = holds c.self.view_is c.self.invariant.0 in
    let t = start-table c.args.kind c.self.inside.len c.to_parent.result c.checkpoint-index.result.index
    h.parts c.self.invariant.1
    c.checkpoint-index.ensures.index c.to_parent.ensures.up in
    built-is (moved t (c.in_ok-push.ensures ∙ ap (λ r. c.self.inside.records ++ r ∷ []) c.node-node.ensures)
    (c.in_ok-push-2.ensures.items ∙ ap (λ ps. ps ++ c.checkpoint-index.result.index ∷ []) c.in_ok-reserve.ensures.items)
    refl)

pub returns-clause-calls : goal.returns-clause-calls
returns-clause-calls g c = ap written (returns-clause-ok g c) ∙ written-start c.args.kind c.args.self.now
