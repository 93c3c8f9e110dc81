use Rattle.std.proofs.Common.{◌≡◌, ◌-◌, List, [], ◌∷◌, length, ◌∙◌, ap, refl, arith}
use Rattle.document_grammar.proofs.Built.{count-close}
use Rattle.document_grammar.specs.Builds.{Open, close, built_count}
use Rattle.document_grammar.specs.Forests.{Forest}
use Rattle.apollo_tree.proofs.Steps.{count-is, holds, kept, built-is, moved, innermost, length-open_indices}
use Rattle.apollo_tree.proofs.Steps.{finish-here, finish-above, can-finish-open}
use Rattle.apollo_tree.proofs.Written.{written-finish}
use Rattle.apollo_tree.proofs.span_builder.SpanBuilder.finish_node.Goals as goal
use Rattle.apollo_tree.specs.Brackets.{written}
use Rattle.apollo_tree.specs.Sound.{FitsInnermost}

pub unwrap-index-requires : goal.unwrap-index-requires
unwrap-index-requires g c =
    let h = (holds c.self.view_is c.self.invariant.0).parts in
    c.pop.ensures.variant.1 (omega (
      arith,
      ap length h.indices,
      can-finish-open c.args.self.now c.requires,
      length-open_indices c.args.self.now.above,
      c.self.inside.unfinished.ok.0,
    ))

pub overflow_sub-size : goal.overflow_sub-size
overflow_sub-size g c =
    let i = innermost (holds c.self.view_is c.self.invariant.0) c.pop.ensures.items c.unwrap-index.ensures in
    omega (arith, i.inside)

pub set_size-requires-clause-inside : goal.set_size-requires-clause-inside
set_size-requires-clause-inside g c =
    let i = innermost (holds c.self.view_is c.self.invariant.0) c.pop.ensures.items c.unwrap-index.ensures in
    omega (arith, i.inside)

pub set_size-requires-clause-fits : goal.set_size-requires-clause-fits
set_size-requires-clause-fits g c =
    let i = innermost (holds c.self.view_is c.self.invariant.0) c.pop.ensures.items c.unwrap-index.ensures in
    omega (arith, i.inside)

pub invariant_of-self : goal.invariant_of-self
invariant_of-self g c =
    let held = holds c.self.view_is c.self.invariant.0 in
    let i = innermost held c.pop.ensures.items c.unwrap-index.ensures in (
      kept (moved (i.done (c.len.result - c.unwrap-index.result) (omega (arith, i.inside))) c.set_size.ensures
          refl refl)
          (finish-here _ held.here held.above c.requires) (finish-above _ held.above),
      c.self.invariant.1,
    )

pub returns-clause-after : goal.returns-clause-after
returns-clause-after g c =
    let i = innermost (holds c.self.view_is c.self.invariant.0) c.pop.ensures.items c.unwrap-index.ensures in
    built-is (moved (i.done (c.len.result - c.unwrap-index.result) (omega (arith, i.inside))) c.set_size.ensures
    refl refl)

pub returns-clause-calls : goal.returns-clause-calls
returns-clause-calls g c = ap written (returns-clause-after g c) ∙ written-finish c.args.self.now c.requires

finished_count : (here : Forest) (above : List Open) → FitsInnermost here above
    → built_count (close here above) ≡ built_count (record { here = here; above = above })
finished_count here [] h = absurd h
finished_count here (o ∷ above) h = count-close here o above

pub returns-clause-counted : goal.returns-clause-counted
returns-clause-counted g c =
    let n : c.len.result ≡ built_count c.args.self.now =
    c.len.ensures ∙ count-is (holds c.self.view_is c.self.invariant.0).parts in
    let e = ap built_count (returns-clause-after g c)
    ∙ finished_count c.args.self.now.here c.args.self.now.above c.requires in
    omega (arith, e, n, c.len.type_inv)
