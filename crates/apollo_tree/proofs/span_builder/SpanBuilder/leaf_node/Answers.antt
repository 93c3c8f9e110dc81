use Rattle.std.proofs.Common.{◌≡◌, ◌+◌, [], ◌∷◌, ◌++◌, ◌∙◌, ap, ap₂, refl, length, arith}
use Rattle.std.proofs.lemmas.List.{length-append}
use Rattle.document_grammar.specs.Forests.{none, leaf, node}
use Rattle.apollo_tree.proofs.Steps.{holds, kept, built-is, leaf-node-table, moved, sound-join, count-is, is-new}
use Rattle.apollo_tree.proofs.Written.{written-joined}
use Rattle.apollo_tree.proofs.span_builder.SpanBuilder.leaf_node.Goals as goal
use Rattle.apollo_tree.specs.Brackets.{written}

pub push_both_in_place-requires-clause-first : goal.push_both_in_place-requires-clause-first
push_both_in_place-requires-clause-first g c =
    let h = holds c.self.view_is c.self.invariant.0 in
    is-new _ _ _ c.node-first.ensures (omega arith)
    (omega (arith, c.to_parent-to_parent.ensures.within, c.checkpoint.ensures.index, count-is h.parts))

pub push_both_in_place-requires-clause-second : goal.push_both_in_place-requires-clause-second
push_both_in_place-requires-clause-second g c = is-new _ _ _ c.leaf-second.ensures (omega arith) (omega arith)

pub invariant_of-self : goal.invariant_of-self
invariant_of-self g c =
    let h = holds c.self.view_is c.self.invariant.0 in
    let l : length c.joined-self-inside.result.value ≡ length c.self.inside.leaf_text.value + length c.args.text.now =
    ap length c.joined-self-inside.ensures
    ∙ length-append c.self.inside.leaf_text.value c.args.text.now in (
      kept (moved (leaf-node-table c.args.node c.args.leaf c.args.text.now c.self.inside.len
          c.to_parent-to_parent.result c.checkpoint.result.index h.parts
          c.self.invariant.1 c.checkpoint.ensures.index c.to_parent-to_parent.ensures.up)
          (c.if-push_both_in_place.ensures
          ∙ ap₂ (λ r s. c.self.inside.records ++ r ∷ s ∷ []) c.node-first.ensures c.leaf-second.ensures) refl
          c.joined-self-inside.ensures) (sound-join _ _ h.here (c.requires.leaf, (c.utf8.text, tt), tt)) h.above,
      omega (arith, l, c.self.invariant.1),
    )

pub returns-then-push_both_in_place-clause-ok : goal.returns-then-push_both_in_place-clause-ok
returns-then-push_both_in_place-clause-ok g c =
    let h = holds c.self.view_is c.self.invariant.0 in
    built-is (moved (leaf-node-table c.args.node c.args.leaf c.args.text.now c.self.inside.len
    c.to_parent-to_parent.result c.checkpoint.result.index h.parts
    c.self.invariant.1 c.checkpoint.ensures.index c.to_parent-to_parent.ensures.up)
    (c.if-push_both_in_place.ensures
    ∙ ap₂ (λ r s. c.self.inside.records ++ r ∷ s ∷ []) c.node-first.ensures c.leaf-second.ensures) refl
    c.joined-self-inside.ensures)

pub returns-then-push_both_in_place-clause-calls : goal.returns-then-push_both_in_place-clause-calls
returns-then-push_both_in_place-clause-calls g c = ap written (returns-then-push_both_in_place-clause-ok g c)
    ∙ written-joined (node c.args.node (leaf c.args.leaf c.args.text.now none) none) c.args.self.now
