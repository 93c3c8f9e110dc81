use Rattle.std.proofs.Common.{[], ◌∷◌, ◌++◌, ◌∙◌, ap, sym, subst, refl, length, arith, ◌<◌, List, suc, drop}
use Rattle.std.specs.List.{insert}
use Rattle.apollo_tree.proofs.Steps.{holds, kept, built-is, at_index, index-inside, trees-behind, wrap-table, moved}
use Rattle.apollo_tree.proofs.Steps.{index-le, count-is, sound-front, sound-back}
use Rattle.apollo_tree.proofs.Written.{written-wrap}
use Rattle.apollo_tree.proofs.span_builder.SpanBuilder.wrap.Goals as goal
use Rattle.apollo_tree.specs.Adopted.{after_adoption}
use Rattle.apollo_tree.specs.Brackets.{written}
use Rattle.apollo_tree.specs.Children.{tiled}
use Rattle.apollo_tree.specs.declared.record.Record.{Record}

pub insert-requires : goal.insert-requires
insert-requires g c = omega (arith, index-le _ _ c.requires, count-is (holds c.self.view_is c.self.invariant.0).parts)

pub adopt-requires-clause-inside : goal.adopt-requires-clause-inside
adopt-requires-clause-inside g c =
    let h = holds c.self.view_is c.self.invariant.0 in
    let p = at_index c.args.checkpoint.index c.start_behind-start.result c.to_parent-to_parent.result h.parts c.requires
    c.start_behind-start.ensures
    c.to_parent-to_parent.ensures.up in
    subst (λ (rs : List Record). c.args.checkpoint.index < length rs) (sym c.in_ok-insert.ensures) (index-inside _ p)

pub adopt-requires-clause-trees : goal.adopt-requires-clause-trees
adopt-requires-clause-trees g c =
    let h = holds c.self.view_is c.self.invariant.0 in
    let p = at_index c.args.checkpoint.index c.start_behind-start.result c.to_parent-to_parent.result h.parts c.requires
    c.start_behind-start.ensures
    c.to_parent-to_parent.ensures.up in
    ap (λ (rs : List Record). tiled 0 (drop (suc c.args.checkpoint.index) rs)) c.in_ok-insert.ensures ∙ trees-behind _ p

pub invariant_of-self-2 : goal.invariant_of-self-2
invariant_of-self-2 g c =
    let h = holds c.self.view_is c.self.invariant.0 in
    let t = wrap-table c.args.kind c.args.checkpoint.index c.start_behind-start.result
    c.to_parent-to_parent.result h.parts c.requires
    c.start_behind-start.ensures c.to_parent-to_parent.ensures.up in (
      kept (moved t (c.adopt.ensures ∙ ap (after_adoption c.args.checkpoint.index)
          (c.in_ok-insert.ensures ∙ ap (insert c.self.inside.records c.args.checkpoint.index) c.node.ensures))
          (c.in_ok-push.ensures.items ∙ ap (λ ps. ps ++ c.args.checkpoint.index ∷ []) c.in_ok-reserve.ensures.items)
          refl) (sound-back _ _ h.here)
          (sound-front _ _ h.here, h.above),
      c.self.invariant.1,
    )

pub returns-clause-ok : goal.returns-clause-ok
returns-clause-ok g c =
    let h = holds c.self.view_is c.self.invariant.0 in
    let t = wrap-table c.args.kind c.args.checkpoint.index c.start_behind-start.result
    c.to_parent-to_parent.result h.parts c.requires
    c.start_behind-start.ensures c.to_parent-to_parent.ensures.up in
    built-is (moved t (c.adopt.ensures ∙ ap (after_adoption c.args.checkpoint.index)
    (c.in_ok-insert.ensures ∙ ap (insert c.self.inside.records c.args.checkpoint.index) c.node.ensures))
    (c.in_ok-push.ensures.items ∙ ap (λ ps. ps ++ c.args.checkpoint.index ∷ []) c.in_ok-reserve.ensures.items) refl)

pub returns-clause-calls : goal.returns-clause-calls
returns-clause-calls g c =
    ap written (returns-clause-ok g c) ∙ written-wrap c.args.checkpoint.index c.args.kind c.args.self.now c.requires
