use Rattle.std.proofs.Common.{◌≡◌, ◌∙◌, ◌++◌, List, ℕ, ap, sym, subst, length, take, arith}
use Rattle.std.proofs.lemmas.List.{length-take}
use Rattle.std.proofs.lemmas.Str.{IsCharBoundary-from_take}
use Rattle.std.specs.Prelude.{slice_range}
use Rattle.std.specs.Str.{IsUtf8}
use Rattle.document_grammar.specs.Builds.{Building, open_text, built_text}
use Rattle.document_grammar.specs.Forests.{text}
use Rattle.apollo_tree.proofs.OneReading.{brackets-one}
use Rattle.apollo_tree.proofs.Places.{sound-text}
use Rattle.apollo_tree.proofs.Steps.{holds, finished-over, forest-is, tree-kept}
use Rattle.apollo_tree.proofs.Written.{written-whole}
use Rattle.apollo_tree.proofs.span_builder.SpanBuilder.finish.Goals as goal
use Rattle.apollo_tree.specs.Brackets.{brackets}
use Rattle.apollo_tree.specs.Open.{Holds}
use Rattle.apollo_tree.specs.declared.record.Record.{Record}

-- the source begins with the text that was built
begins : {b : Building} {rs : List Record} {ps s : List ℕ} (source : List ℕ) (n : ℕ) → Holds b rs ps s → n ≡ length s
    → take (length (built_text b)) source ≡ built_text b
    → take n source ≡ built_text b
begins source n h e source_is = ap (λ k. take k source) (e ∙ ap length (sym h.parts.text)) ∙ source_is

-- and a range of it from 0 is that text
borrows : {b : Building} {rs : List Record} {ps s : List ℕ} (source : List ℕ) (n : ℕ) → Holds b rs ps s → n ≡ length s
    → take (length (built_text b)) source ≡ built_text b
    → slice_range source 0 n ≡ built_text b
borrows source n h e source_is = ap (λ k. take k source) (omega arith) ∙ begins source n h e source_is

pub range-requires-clause-end_boundary : goal.range-requires-clause-end_boundary
range-requires-clause-end_boundary g c =
    let h = holds c.self.view_is c.self.invariant.0 in
    let b = begins c.args.source.now c.self.inside.len h c.self.invariant.1 c.requires.source in
    let e : c.self.inside.len ≡ length (built_text c.args.self) = c.self.invariant.1 ∙ ap length (sym h.parts.text) in
    let here : built_text c.args.self ≡ text c.args.self.here =
    ap (λ above. open_text above ++ text c.args.self.here) c.requires.complete.closed in
    IsCharBoundary-from_take c.args.source.now c.self.inside.len c.utf8.source
    (omega (arith, ap length b, e, length-take c.self.inside.len c.args.source.now))
    (subst IsUtf8 (sym (b ∙ here)) (sound-text c.args.self.here h.here))

pub invariant_of-result : goal.invariant_of-result
invariant_of-result g c =
    let h = holds c.self.view_is c.self.invariant.0 in
    tree-kept (finished-over h c.requires.complete
    (c.range.ensures.value ∙ borrows c.args.source.now _ h c.self.invariant.1 c.requires.source))

pub returns-clause-value : goal.returns-clause-value
returns-clause-value g c =
    let h = holds c.self.view_is c.self.invariant.0 in
    forest-is (finished-over h c.requires.complete
    (c.range.ensures.value ∙ borrows c.args.source.now _ h c.self.invariant.1 c.requires.source))

pub returns-clause-calls : goal.returns-clause-calls
returns-clause-calls g c = ap brackets (returns-clause-value g c) ∙ written-whole c.args.self c.requires.complete.closed

pub returns-clause-only : goal.returns-clause-only
returns-clause-only g c = λ f e. brackets-one f _ (e ∙ sym (returns-clause-calls g c))
