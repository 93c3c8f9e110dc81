-- Nothing breaks a rule on variables twice.
use Rattle.std.proofs.Common.{◌≡◌, ◌≢◌, ◌⊎◌, ℕ, zero, suc, ◌<◌, List, [], ◌∷◌, length, Bool, true, false, cond}
use Rattle.std.proofs.Common.{Option, Some, arith, sym, ap, ◌∙◌, inl, inr, ⊎_elim}
use Rattle.std.proofs.lemmas.List.Elements.{Contains-append_cases}
use Rattle.std.proofs.lemmas.List.Kept.{AllPairs-filter}
use Rattle.std.proofs.lemmas.Option.{same_Some}
use Rattle.std.specs.List.{Contains}
use Rattle.apollo_tree.specs.Order.{Place}
use Rattle.validation_names.proofs.Lists.{in_filter, in_range}
use Rattle.validation_names.specs.Mentions.{Named}
use Rattle.validation_names.specs.Names.{Name}
use Rattle.validation_names.specs.Sites.{Located}
use Rattle.validation_names.specs.declared.name_mentions.MentionKind.TheVariants.{Declared, Used}
use Rattle.validation_rules.proofs.ApartLemmas.{AreApart, IsBelow, below_differ, differ, mention_below, mentions_apart}
use Rattle.validation_rules.proofs.ApartLemmas.{numbers_rise, operations_rise, part_is, sites_apart}
use Rattle.validation_rules.proofs.PairLemmas.{in_flat_map, pairs_append, pairs_flat_map}
use Rattle.validation_rules.proofs.SpreadLemmas.{operations_inside}
use Rattle.validation_rules.specs.Broken.{undefined_variables, undefined_variables_in, unknown, unknown_item}
use Rattle.validation_rules.specs.Broken.{unused_variables, variables, variables_of}
use Rattle.validation_rules.specs.Parts.{Parts, at, is_declared, is_used, numbers, operations, parts_in, reached}
use Rattle.validation_rules.specs.Parts.{reaches, site_at}
use Rattle.validation_rules.specs.RuleNumbers.{rule_number}
use Rattle.validation_rules.specs.Violations.{Breach, breach}
use Rattle.validation_rules.specs.declared.violations.Rule.{Rule}
use Rattle.validation_rules.specs.declared.violations.Rule.TheVariants as rule
use Rattle.document_validation.proofs.DifferLemmas.{Differ, unknown_about, unknown_differ}

-- the other party of each is the same
item_other : (r : Rule) (other : Option Located) (known : Bool) (i : Named) (b : Breach)
    → Contains (cond known [] (breach r i.site other ∷ [])) b
    → b.other ≡ other
item_other r other true i b (k, below, is) = absurd (omega arith)
item_other r other false i b (zero, below, is) = ap (λ (x : Breach). x.other) (sym is)
item_other r other false i b (suc k, below, is) = absurd (omega arith)

unknown_other : (r : Rule) (other : Option Located) (is_known : Name → Bool) (items : List Named) (b : Breach)
    → Contains (unknown r other is_known items) b
    → b.other ≡ other
unknown_other r other is_known items b there =
    let (i, among, has) = in_flat_map (unknown_item r other is_known) items b there in
    item_other r other (is_known i.name) i b has

module _ (documents : List Place) where
  -- ---- what definitions mention
  declared_apart : (k : ℕ) → k < length (parts_in documents) → AreApart (at (parts_in documents) k).declared
  declared_apart k below =
      rw (ap (λ (d : Parts). d.declared) (part_is documents k below))
      (mentions_apart Declared (site_at (parts_in documents) k))

  used_apart : (k : ℕ) → k < length (parts_in documents) → AreApart (at (parts_in documents) k).used
  used_apart k below = rw (ap (λ (d : Parts). d.used) (part_is documents k below))
      (mentions_apart Used (site_at (parts_in documents) k))

  used_below : (k : ℕ) → k < length (parts_in documents) → (item : Named)
      → Contains (at (parts_in documents) k).used item
      → IsBelow (site_at (parts_in documents) k) item.site
  used_below k below item there =
      mention_below Used (site_at (parts_in documents) k) item
      (rw (ap (λ (d : Parts). d.used) (part_is documents k below)) at there)

  -- ---- one operation
  module _ (operation : ℕ) where
    abbrev party : Option Located
    party = Some (site_at (parts_in documents) operation)

    inside : (number : ℕ) → Contains (reached (parts_in documents) operation) number
        → number < length (parts_in documents)
    inside number there =
        let among = (in_filter (reaches (parts_in documents) (operation ∷ [])) (numbers (parts_in documents))
        number there).0 in
        let l = in_range 0 (length (parts_in documents)) number among in
        omega arith

    unused_rule : (b : Breach) → Contains (unused_variables (parts_in documents) operation) b
        → (b.rule ≡ rule.NoUnusedVariables) × (b.other ≡ party)
    unused_rule b there =
        let known = is_used (parts_in documents) operation in
        let items = (at (parts_in documents) operation).declared in (
          (unknown_about rule.NoUnusedVariables party known items b there).0,
          unknown_other rule.NoUnusedVariables party known items b there,
        )

    undefined_rule : (b : Breach) → Contains (undefined_variables (parts_in documents) operation) b
        → (b.rule ≡ rule.NoUndefinedVariables) × (b.other ≡ party)
    undefined_rule b there =
        let (number, among, has) =
        in_flat_map (undefined_variables_in (parts_in documents) operation)
        (reached (parts_in documents) operation) b there in
        let known = is_declared (parts_in documents) operation in
        let items = (at (parts_in documents) number).used in (
          (unknown_about rule.NoUndefinedVariables party known items b has).0,
          unknown_other rule.NoUndefinedVariables party known items b has,
        )

    operation_other : (b : Breach) → Contains (variables_of (parts_in documents) operation) b → b.other ≡ party
    operation_other b there =
        ⊎_elim
        (λ (first : Contains (unused_variables (parts_in documents) operation) b). (unused_rule b first).1)
        (λ (second : Contains (undefined_variables (parts_in documents) operation) b). (undefined_rule b second).1)
        (Contains-append_cases (unused_variables (parts_in documents) operation)
        (undefined_variables (parts_in documents) operation) b there)

    undefined_differ : Differ (undefined_variables (parts_in documents) operation)
    undefined_differ =
        let known = is_declared (parts_in documents) operation in
        pairs_flat_map (λ j k. j < k) (λ a b. a ≢ b) (undefined_variables_in (parts_in documents) operation)
        (reached (parts_in documents) operation)
        (AllPairs-filter (λ j k. j < k) (reaches (parts_in documents) (operation ∷ [])) (numbers (parts_in documents))
        (numbers_rise (parts_in documents)))
        (λ n there. unknown_differ rule.NoUndefinedVariables party known (at (parts_in documents) n).used
        (used_apart n (inside n there)))
        (λ j k at_j at_k less a b has_a has_b same.
        let (rule_a, (one, among, is)) =
        unknown_about rule.NoUndefinedVariables party known (at (parts_in documents) j).used a has_a in
        let (rule_b, (other, within, at_other)) =
        unknown_about rule.NoUndefinedVariables party known (at (parts_in documents) k).used b has_b in
        below_differ (site_at (parts_in documents) j) (site_at (parts_in documents) k) one.site other.site
        (sites_apart documents j k less (inside k at_k)) (used_below j (inside j at_j) one among)
        (used_below k (inside k at_k) other within)
        (sym is ∙ ap (λ (x : Breach). x.site) same ∙ at_other))

    operation_differ : operation < length (parts_in documents) → Differ (variables_of (parts_in documents) operation)
    operation_differ below =
        pairs_append (λ a b. a ≢ b) (unused_variables (parts_in documents) operation)
        (undefined_variables (parts_in documents) operation)
        (unknown_differ rule.NoUnusedVariables party (is_used (parts_in documents) operation)
        (at (parts_in documents) operation).declared
        (declared_apart operation below))
        undefined_differ
        (λ a b at_a at_b same.
        let numbers : 11 ≡ 10 =
        ap rule_number (sym (unused_rule a at_a).0 ∙ ap (λ (x : Breach). x.rule) same ∙ (undefined_rule b at_b).0) in
        omega arith)

  -- ---- all operations
  pub variables_differ : Differ (variables (parts_in documents))
  variables_differ =
      pairs_flat_map (λ j k. j < k) (λ a b. a ≢ b) (variables_of (parts_in documents)) (operations (parts_in documents))
      (operations_rise (parts_in documents))
      (λ operation there. operation_differ operation (operations_inside (parts_in documents) operation there))
      (λ j k at_j at_k less a b has_a has_b same.
      differ (site_at (parts_in documents) j) (site_at (parts_in documents) k)
      (sites_apart documents j k less (operations_inside (parts_in documents) k at_k))
      (same_Some (site_at (parts_in documents) j) (site_at (parts_in documents) k)
      (sym (operation_other j a has_a) ∙ ap (λ (x : Breach). x.other) same ∙ operation_other k b has_b)))

  pub variables_rule : (b : Breach) → Contains (variables (parts_in documents)) b
      → (b.rule ≡ rule.NoUndefinedVariables) ⊎ (b.rule ≡ rule.NoUnusedVariables)
  variables_rule b there =
      let (operation, among, has) =
      in_flat_map (variables_of (parts_in documents)) (operations (parts_in documents)) b there in
      ⊎_elim
      (λ (first : Contains (unused_variables (parts_in documents) operation) b). inr (unused_rule operation b first).0)
      (λ (second : Contains (undefined_variables (parts_in documents) operation) b). inl
      (undefined_rule operation b second).0)
      (Contains-append_cases (unused_variables (parts_in documents) operation)
      (undefined_variables (parts_in documents) operation) b has)
