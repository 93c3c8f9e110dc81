-- Lists of breaches in which none is there twice.
use Rattle.std.proofs.Common.{◌≡◌, ◌≢◌, ℕ, zero, suc, ◌<◌, List, [], ◌∷◌, length, Bool, true, false, cond}
use Rattle.std.proofs.Common.{Option, Some, None, arith, sym, ap, ◌∙◌}
use Rattle.std.proofs.lemmas.List.Elements.{Contains-get_or}
use Rattle.std.specs.List.{AllPairs, Contains, flat_map, range_with_len}
use Rattle.validation_names.proofs.Lists.{in_range}
use Rattle.validation_names.specs.Mentions.{Named}
use Rattle.validation_names.specs.Names.{Name}
use Rattle.validation_names.specs.Sites.{Located}
use Rattle.validation_rules.proofs.ApartLemmas.{AreApart}
use Rattle.validation_rules.proofs.PairLemmas.{in_flat_map, pairs_flat_map, pairs_none, range_rises}
use Rattle.validation_rules.specs.Broken.{repeat_at, repeat_of, repeats, unknown, unknown_item}
use Rattle.validation_rules.specs.Parts.{item_at}
use Rattle.validation_rules.specs.Violations.{Breach, breach}
use Rattle.validation_rules.specs.declared.violations.Rule.{Rule}

abbrev pub Differ : List Breach → Type 0
Differ bs = AllPairs (λ a b. a ≢ b) bs

pub none_differ : Differ []
none_differ = pairs_none (λ a b. a ≢ b)

pub one_differs : (b : Breach) → Differ (b ∷ [])
one_differs b i j d less below = absurd (omega arith)

only : (b c : Breach) → Contains (b ∷ []) c → b ≡ c
only b c (zero, below, is) = is
only b c (suc k, below, is) = absurd (omega arith)

-- the breaches of a list are all of one rule and about one place
pub record IsAbout (r : Rule) (s : Located) (b : Breach) : Type 0 where
  pub rule : b.rule ≡ r
  pub site : b.site ≡ s

pub of_one : (r : Rule) (s : Located) (other : Option Located) (b : Breach)
    → Contains (breach r s other ∷ []) b → IsAbout r s b
of_one r s other b there =
    let is = only (breach r s other) b there in
    record { rule = ap (λ (x : Breach). x.rule) (sym is); site = ap (λ (x : Breach). x.site) (sym is) }

pub of_none : (r : Rule) (s : Located) (b : Breach) → Contains [] b → IsAbout r s b
of_none r s b (k, below, is) = absurd (omega arith)

-- at most one each, at places that come apart
module _ {X : Type 0} (r : Rule) (f : X → List Breach) (site : X → Located) (S : X → X → Type 0) where
  pub singles_differ : (xs : List X) → AllPairs S xs → ((x : X) → Differ (f x))
      → ((x : X) (b : Breach) → Contains (f x) b → IsAbout r (site x) b)
      → ((x y : X) → Contains xs x → Contains xs y → S x y → site x ≢ site y) → Differ (flat_map f xs)
  singles_differ xs pairs each about apart =
      pairs_flat_map S (λ a b. a ≢ b) f xs pairs (λ x there. each x)
      (λ x y at_x at_y so a b has_a has_b same.
      apart x y at_x at_y so (sym (about x a has_a).site ∙ ap (λ (z : Breach). z.site) same ∙ (about y b has_b).site))

-- ---- repeated names
repeat_about : (r : Rule) (items : List Named) (n : ℕ) (first : Option ℕ) (b : Breach)
    → Contains (repeat_of r items n first) b
    → IsAbout r (item_at items n).site b
repeat_about r items n None b there = of_none r (item_at items n).site b there
repeat_about r items n (Some first) b there = of_one r (item_at items n).site (Some (item_at items first).site) b there

repeat_differs : (r : Rule) (items : List Named) (n : ℕ) (first : Option ℕ) → Differ (repeat_of r items n first)
repeat_differs r items n None = none_differ
repeat_differs r items n (Some first) = one_differs (breach r (item_at items n).site (Some (item_at items first).site))

pub repeats_differ : (r : Rule) (items : List Named) → AreApart items → Differ (repeats r items)
repeats_differ r items apart =
    singles_differ r (repeat_at r items) (λ n. (item_at items n).site) (λ j k. j < k) (range_with_len 0 (length items))
    (range_rises 0 (length items))
    (λ n. repeat_differs r items n _) (λ n b there. repeat_about r items n _ b there)
    (λ j k at_j at_k less. let l = in_range 0 (length items) k at_k in apart j k (item_at [] 0) less (omega arith))

-- where such a breach is
pub repeats_about : (r : Rule) (items : List Named) (b : Breach) → Contains (repeats r items) b
    → (b.rule ≡ r) × ((item : Named) × Contains items item × (b.site ≡ item.site))
repeats_about r items b there =
    let (n, among, has) = in_flat_map (repeat_at r items) (range_with_len 0 (length items)) b there in
    let about = repeat_about r items n _ b has in
    let l = in_range 0 (length items) n among in
    (about.rule, (item_at items n, Contains-get_or items n (item_at [] 0) (omega arith), about.site))

-- ---- names that are not known
item_about : (r : Rule) (other : Option Located) (known : Bool) (i : Named) (b : Breach)
    → Contains (cond known [] (breach r i.site other ∷ [])) b
    → IsAbout r i.site b
item_about r other true i b there = of_none r i.site b there
item_about r other false i b there = of_one r i.site other b there

item_differs : (r : Rule) (other : Option Located) (known : Bool) (i : Named)
    → Differ (cond known [] (breach r i.site other ∷ []))
item_differs r other true i = none_differ
item_differs r other false i = one_differs (breach r i.site other)

pub unknown_differ : (r : Rule) (other : Option Located) (is_known : Name → Bool) (items : List Named) → AreApart items
    → Differ (unknown r other is_known items)
unknown_differ r other is_known items apart =
    singles_differ r (unknown_item r other is_known) (λ (i : Named). i.site) (λ (a b : Named). a.site ≢ b.site)
    items apart
    (λ i. item_differs r other (is_known i.name) i) (λ i b there. item_about r other (is_known i.name) i b there)
    (λ x y at_x at_y so. so)

pub unknown_about : (r : Rule) (other : Option Located) (is_known : Name → Bool) (items : List Named) (b : Breach)
    → Contains (unknown r other is_known items) b
    → (b.rule ≡ r) × ((item : Named) × Contains items item × (b.site ≡ item.site))
unknown_about r other is_known items b there =
    let (i, among, has) = in_flat_map (unknown_item r other is_known) items b there in
    let about = item_about r other (is_known i.name) i b has in
    (about.rule, (i, among, about.site))
