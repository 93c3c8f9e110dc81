use Rattle.std.proofs.Common.{[], ◌∷◌, ◌++◌, ◌∙◌, ap, refl, arith}
use Rattle.apollo_tree.proofs.Steps.{holds, kept, built-is, start-table, moved, count-is, is-new}
use Rattle.apollo_tree.proofs.Written.{written-start}
use Rattle.apollo_tree.proofs.span_builder.SpanBuilder.start_node.Goals as goal
use Rattle.apollo_tree.specs.Brackets.{written}

pub push_in_place-requires : goal.push_in_place-requires
push_in_place-requires g c =
    let h = holds c.self.view_is c.self.invariant.0 in
    is-new _ _ _ c.node-node.ensures (omega arith)
    (omega (arith, c.to_parent.ensures.within, c.checkpoint-index.ensures.index, count-is h.parts))

pub invariant_of-self : goal.invariant_of-self
invariant_of-self g c =
    let h = holds c.self.view_is c.self.invariant.0 in
    let t = start-table c.args.kind c.self.inside.len c.to_parent.result c.checkpoint-index.result.index
    h.parts c.self.invariant.1
    c.checkpoint-index.ensures.index c.to_parent.ensures.up in (
      kept (moved t (c.if-push_in_place.ensures ∙ ap (λ r. c.self.inside.records ++ r ∷ []) c.node-node.ensures)
          c.push_reserved.ensures.items refl) tt (
            h.here,
            h.above,
          ),
      c.self.invariant.1,
    )

pub returns-then-push_in_place-clause-ok : goal.returns-then-push_in_place-clause-ok
returns-then-push_in_place-clause-ok g c =
    let h = holds c.self.view_is c.self.invariant.0 in
    let t = start-table c.args.kind c.self.inside.len c.to_parent.result c.checkpoint-index.result.index
    h.parts c.self.invariant.1
    c.checkpoint-index.ensures.index c.to_parent.ensures.up in
    built-is (moved t (c.if-push_in_place.ensures ∙ ap (λ r. c.self.inside.records ++ r ∷ []) c.node-node.ensures)
    c.push_reserved.ensures.items refl)

pub returns-then-push_in_place-clause-calls : goal.returns-then-push_in_place-clause-calls
returns-then-push_in_place-clause-calls g c =
    ap written (returns-then-push_in_place-clause-ok g c) ∙ written-start c.args.kind c.args.self.now
