use Rattle.std.proofs.Common.{◌≡◌, ◌+◌, ◌-◌, ◌<◌, ◌≤◌, ◌∷◌, drop, length, map, arith, refl, sym, ap, ◌∙◌}
use Rattle.std.proofs.lemmas.List.{drop_more}
use Rattle.apollo_tree.specs.References.{node_place}
use Rattle.type_system.specs.Schemas.{types}
use Rattle.query_validation.proofs.contexts.inside.Goals as goal
use Rattle.query_validation.specs.Contexts.{inside, step}

pub loop-left-preserved : goal.loop-left-preserved
loop-left-preserved c =
    let chain = c.args.chain.now in
    let left = c.loop-left.left - 1 in
    let node = c.index-chain-left.result in
    let T = types c.args.schema.now in
    let within : left ≤ length chain = let w = c.loop-left.invariant.within in omega arith in
    let below : left < length chain = let w = c.loop-left.invariant.within in omega (arith, c.loop-left-test.true) in
    let next : left + 1 ≡ c.loop-left.left = omega (arith, c.loop-left-test.true) in
    let more : drop left chain ≡ node ∷ drop (c.loop-left.left) chain =
    drop_more chain left node below ∙ rw (← c.index-chain-left.is, next) refl in
    record {
      within = within;
      context =
          c.step-context.ensures ∙ ap (λ a. step T a (node_place node)) c.loop-left.invariant.context
          ∙ ap (λ ns. inside T (map node_place ns)) (sym more);
    }
