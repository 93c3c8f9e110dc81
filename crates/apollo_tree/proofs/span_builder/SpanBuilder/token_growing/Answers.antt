use Rattle.std.proofs.Common.{◌≡◌, ◌+◌, [], ◌∷◌, ◌++◌, ◌∙◌, ap, refl, length, arith}
use Rattle.std.proofs.lemmas.List.{length-append}
use Rattle.apollo_tree.proofs.Steps.{holds, kept, built-is, leaf-table, moved, sound-join}
use Rattle.apollo_tree.proofs.Written.{written-leaf}
use Rattle.apollo_tree.proofs.span_builder.SpanBuilder.token_growing.Goals as goal
use Rattle.apollo_tree.specs.Brackets.{written}

pub invariant_of-self-2 : goal.invariant_of-self-2
invariant_of-self-2 g c =
    let h = holds c.self.view_is c.self.invariant.0 in
    let l : length c.joined-self-inside.result.value ≡ length c.self.inside.leaf_text.value + length c.args.text.now =
    ap length c.joined-self-inside.ensures
    ∙ length-append c.self.inside.leaf_text.value c.args.text.now in (
      kept (moved (leaf-table c.args.kind c.args.text.now c.self.inside.len c.to_parent-to_parent.result
          c.checkpoint.result.index h.parts c.self.invariant.1
          c.checkpoint.ensures.index c.to_parent-to_parent.ensures.up) (c.in_ok-push.ensures
          ∙ ap (λ r. c.self.inside.records ++ r ∷ []) c.leaf.ensures) refl c.joined-self-inside.ensures)
          (sound-join _ _ h.here (c.utf8.text, tt)) h.above,
      omega (arith, l, c.self.invariant.1),
    )

pub returns-clause-ok : goal.returns-clause-ok
returns-clause-ok g c =
    let h = holds c.self.view_is c.self.invariant.0 in
    built-is (moved (leaf-table c.args.kind c.args.text.now c.self.inside.len c.to_parent-to_parent.result
    c.checkpoint.result.index h.parts c.self.invariant.1
    c.checkpoint.ensures.index c.to_parent-to_parent.ensures.up) (c.in_ok-push.ensures
    ∙ ap (λ r. c.self.inside.records ++ r ∷ []) c.leaf.ensures) refl c.joined-self-inside.ensures)

pub returns-clause-calls : goal.returns-clause-calls
returns-clause-calls g c = ap written (returns-clause-ok g c) ∙ written-leaf c.args.kind c.args.text.now c.args.self.now
