use Rattle.std.proofs.Common.{◌<◌, Some, map, not, sym, ap, ◌∙◌, subst}
use Rattle.std.proofs.lemmas.List.{length-map}
use Rattle.std.proofs.lemmas.List.Sorted.{IsPermutation-sym, IsPermutation-trans}
use Rattle.std.specs.List.{All, list_any}
use Rattle.std.specs.List.Sorted.{IsNonDecreasing, IsPermutation}
use Rattle.validation_names.specs.Mentions.{Named, as_named}
use Rattle.validation_rules.specs.Parts.{Parts, as_parts, at, is_used, reached, site_at}
use Rattle.validation_rules.specs.declared.violations.Rule.TheVariants.{NoUnusedVariables}
use Rattle.variable_rules.proofs.WalkLemmas.{adds_operation, inside_reached, inside_rows, no_use_steps, none_undefined}
use Rattle.variable_rules.proofs.WalkLemmas.{read_again}
use Rattle.variable_rules.proofs.WalkLemmas.{unknown_are, unused_alone, used_is, walk_alone, walk_and_uses}
use Rattle.variable_rules.proofs.operations.add_operation.Goals as goal
use Rattle.variable_rules.specs.UsedNames.{is_known}

pub names_among-requires : goal.names_among-requires
names_among-requires c =
    let ds = map as_parts c.args.parts.now in
    let are = read_again c.args.numbers.items c.deref.result.now (reached ds c.args.operation)
    c.deref.ensures.value c.requires.numbers in
    inside_rows ds c.args.names.now c.args.operation c.deref.result.now c.requires.names are

pub walk_steps-steps-requires-clause-inside : goal.walk_steps-steps-requires-clause-inside
walk_steps-steps-requires-clause-inside c =
    let ds = map as_parts c.args.parts.now in
    let are = read_again c.args.numbers.items c.deref-3.result.now (reached ds c.args.operation)
    c.deref-3.ensures.value c.requires.numbers in
    inside_rows ds c.args.names.now c.args.operation c.deref-3.result.now c.requires.names are

pub returns-then-not-has_unknown-clause-adds : goal.returns-then-not-has_unknown-clause-adds
returns-then-not-has_unknown-clause-adds c =
    let ds = map as_parts c.args.parts.now in
    let o = c.args.operation in
    let party = ap (λ (d : Parts). Some d.definition.site) c.part_at.ensures in
    let items = ap (map as_named) c.deref-2.ensures.value ∙ ap (λ (d : Parts). d.declared) c.part_at-2.ensures in
    let are = read_again c.args.numbers.items c.deref.result.now (reached ds o)
    c.deref.ensures.value c.requires.numbers in
    let used = c.in_ok-used.used in
    let agree =
    used_is ds c.args.names.now o c.deref.result.now used.known (map as_named used.items.items) c.requires.names are
    c.in_ok-used.ensures in
    let same = unknown_are NoUnusedVariables _ (Some (site_at ds o)) (is_known used.known) (is_used ds o) _
    (at ds o).declared party agree items in
    let none =
    none_undefined ds c.args.names.now o c.deref.result.now used.known (map as_named used.items.items) c.requires.names
    are c.in_ok-used.ensures
    (is_known c.in_ok-declared.declared) c.in_ok-declared.ensures
    (ap (list_any (λ (i : Named). not (is_known c.in_ok-declared.declared i.name)))
    (ap (map as_named) (sym c.deref-4.ensures.value))
    ∙ sym c.has_unknown.ensures ∙ c.if-not-has_unknown.true) in
    unused_alone ds o _ _ none (rw same at c.in_ok-add_unknown.ensures)

pub returns-then-not-has_unknown-clause-steps : goal.returns-then-not-has_unknown-clause-steps
returns-then-not-has_unknown-clause-steps c =
    let ds = map as_parts c.args.parts.now in
    let are = read_again c.args.numbers.items c.deref-3.result.now (reached ds c.args.operation)
    c.deref-3.ensures.value c.requires.numbers in
    let o = c.args.operation in
    let used = c.in_ok-used.used in
    let first = read_again c.args.numbers.items c.deref.result.now (reached ds o)
    c.deref.ensures.value c.requires.numbers in
    let none =
    no_use_steps ds c.args.names.now o c.deref.result.now used.known (map as_named used.items.items) c.requires.names
    first c.in_ok-used.ensures
    (is_known c.in_ok-declared.declared) c.in_ok-declared.ensures
    (ap (list_any (λ (i : Named). not (is_known c.in_ok-declared.declared i.name)))
    (ap (map as_named) (sym c.deref-4.ensures.value))
    ∙ sym c.has_unknown.ensures ∙ c.if-not-has_unknown.true) in
    walk_alone ds c.args.names.now c.args.graph.now o c.deref-3.result.now c.requires.names
    c.requires.graph are _
    c.walk_steps-steps.ensures none

pub add_undefined-requires-clause-numbers : goal.add_undefined-requires-clause-numbers
add_undefined-requires-clause-numbers c =
    let ds = map as_parts c.args.parts.now in
    let sorted = c.in_order-sorted.result.items in
    let back = IsPermutation-sym c.args.numbers.items sorted c.in_order-sorted.ensures.same in
    let both = IsPermutation-trans sorted c.args.numbers.items (reached ds c.args.operation) back c.requires.numbers in
    let are = read_again sorted c.deref-5.result.now (reached ds c.args.operation) c.deref-5.ensures.value both in
    subst (λ n. All (λ number. number < n) c.deref-5.result.now) (length-map c.args.parts.now as_parts)
    (inside_reached ds c.args.operation c.deref-5.result.now are)

pub returns-clause-adds : goal.returns-clause-adds
returns-clause-adds c =
    let ds = map as_parts c.args.parts.now in
    let o = c.args.operation in
    let party = ap (λ (d : Parts). Some d.definition.site) c.part_at.ensures in
    let items = ap (map as_named) c.deref-2.ensures.value ∙ ap (λ (d : Parts). d.declared) c.part_at-2.ensures in
    let are = read_again c.args.numbers.items c.deref.result.now (reached ds o)
    c.deref.ensures.value c.requires.numbers in
    let used = c.in_ok-used.used in
    let agree =
    used_is ds c.args.names.now o c.deref.result.now used.known (map as_named used.items.items) c.requires.names are
    c.in_ok-used.ensures in
    let same = unknown_are NoUnusedVariables _ (Some (site_at ds o)) (is_known used.known) (is_used ds o) _
    (at ds o).declared party agree items in
    let sorted = subst (λ xs. IsPermutation c.args.numbers.items xs) (sym c.deref-5.ensures.value)
    c.in_order-sorted.ensures.same in
    let in_order = subst (λ xs. IsNonDecreasing xs) (sym c.deref-5.ensures.value) c.in_order-sorted.ensures.in_order in
    adds_operation ds o c.args.numbers.items c.deref-5.result.now _ _ _ c.requires.numbers sorted in_order
    (rw same at c.in_ok-add_unknown.ensures) c.in_ok-uses.ensures.adds

pub returns-clause-steps : goal.returns-clause-steps
returns-clause-steps c =
    let ds = map as_parts c.args.parts.now in
    let are = read_again c.args.numbers.items c.deref-3.result.now (reached ds c.args.operation)
    c.deref-3.ensures.value c.requires.numbers in
    let one = subst (λ xs. IsPermutation xs c.in_order-sorted.result.items) (sym c.deref-3.ensures.value)
    c.in_order-sorted.ensures.same in
    let sorted = subst (λ xs. IsPermutation c.deref-3.result.now xs) (sym c.deref-5.ensures.value) one in
    c.saturating_add.ensures
    ∙ walk_and_uses ds c.args.names.now c.args.graph.now c.args.operation c.deref-3.result.now c.requires.names
    c.requires.graph are _ _
    c.deref-5.result.now sorted c.walk_steps-steps.ensures c.in_ok-uses.ensures.steps
