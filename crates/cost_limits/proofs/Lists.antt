-- Lists of operations, and the limits that they exceed.
use Rattle.std.proofs.Common.{◌≡◌, ℕ, suc, ◌+◌, ◌<◌, ◌≤◌, List, [], ◌∷◌, ◌++◌, length, map, take, get_or, Bool, true}
use Rattle.std.proofs.Common.{false, cond, Option, Some, None, unwrap_or, refl, sym, ap, ap₂, ◌∙◌, subst, arith, ltb}
use Rattle.std.proofs.Common.{◌-◌, ◌^◌}
use Rattle.std.proofs.lemmas.Bool.Decides.{nat_tests}
use Rattle.std.proofs.lemmas.List.{length-map, take_more, map-append, append-nil, length-take}
use Rattle.std.proofs.lemmas.List.Elements.{All-cons, filter-append}
use Rattle.std.specs.List.{filter}
use Rattle.std.specs.Prelude.{find}
use Rattle.std.specs.Prelude.{All}
use Rattle.document_grammar.specs.Forests.{Forest, none as no_tree, leaf, node, count}
use Rattle.document_grammar.specs.Numbers.{is_kind}
use Rattle.document_grammar.specs.declared.kind.SyntaxKind.TheVariants.{FIELD, ALIAS, DIRECTIVE, FRAGMENT_SPREAD}
use Rattle.document_grammar.specs.declared.kind.SyntaxKind.TheVariants.{FRAGMENT_NAME}
use Rattle.apollo_tree.specs.Order.{Place, tree_at, tree_kids, kind_at}
use Rattle.apollo_tree.specs.References.{node_place}
use Rattle.validation_names.specs.Definitions.{Defined, as_defined, fragment_names}
use Rattle.validation_names.specs.Mentions.{name_in}
use Rattle.validation_names.specs.Names.{Name, Entries, AreFirstNumbers}
use Rattle.validation_names.specs.Sites.{Located, as_located, located}
use Rattle.validation_names.specs.declared.executables.ExecutableDefinition.{ExecutableDefinition}
use Rattle.cost_figures.specs.Limiting.{figure_of, limits_in_order}
use Rattle.cost_figures.specs.Outcome.{AreMeasured, none, next}
use Rattle.cost_figures.specs.declared.figures.Figures.{Figures}
use Rattle.cost_figures.specs.declared.items.Item.{Item}
use Rattle.cost_figures.specs.declared.items.Item.TheVariants.{Alias, Directive, Spread}
use Rattle.cost_figures.specs.declared.limits.Limit.{Limit}
use Rattle.cost_figures.specs.declared.limits.Limit.TheVariants.{Depth, Fields, RootFields, Aliases, Directives, Height}
use Rattle.cost_figures.specs.declared.limits.Limit.TheVariants.{DistinctRootFields}
use Rattle.cost_limits.specs.Collecting.{number_of}
use Rattle.cost_limits.specs.Items.{field_items, is_counted, is_new, response_name, span_at, items_of as own_items}
use Rattle.cost_limits.specs.Items.{seen_after, inside, items_below, definition_items}
use Rattle.cost_limits.specs.Limits.{exceeded_by, IsWithin}
use Rattle.cost_limits.specs.Measures.{Measure, number_in, items_of, is_measured, operations}
use Rattle.cost_limits.specs.declared.introspection.Introspection.{Introspection}

first_none : (p : Limit → Bool) (x : Limit) (xs : List Limit) → find p (x ∷ xs) ≡ None
    → (p x ≡ false) × (find p xs ≡ None)
first_none p x xs e = go (p x) refl e
  where
    go : (b : Bool) → p x ≡ b → cond b (Some x) (find p xs) ≡ None → (p x ≡ false) × (find p xs ≡ None)
    go true h f = absurd (let r : ⊥ = cc in r)
    go false h f = (h, f)

none_passes : (p : Limit → Bool) → find p limits_in_order ≡ None → (l : Limit) → p l ≡ false
none_passes p e l =
    let a = first_none p Depth (Fields ∷ RootFields ∷ Aliases ∷ Directives ∷ Height ∷ DistinctRootFields ∷ []) e in
    let b = first_none p Fields (RootFields ∷ Aliases ∷ Directives ∷ Height ∷ DistinctRootFields ∷ []) a.1 in
    let c = first_none p RootFields (Aliases ∷ Directives ∷ Height ∷ DistinctRootFields ∷ []) b.1 in
    let d = first_none p Aliases (Directives ∷ Height ∷ DistinctRootFields ∷ []) c.1 in
    let f = first_none p Directives (Height ∷ DistinctRootFields ∷ []) d.1 in
    let g = first_none p Height (DistinctRootFields ∷ []) f.1 in
    let h = first_none p DistinctRootFields [] g.1 in
    elim l as (λ l. p l ≡ false) [
      | Depth ↦ a.0
      | Fields ↦ b.0
      | RootFields ↦
          c.0
      | Aliases ↦ d.0
      | Directives ↦ f.0
      | Height ↦ g.0
      | DistinctRootFields ↦ h.0
    ]

not_less : (m n : ℕ) → ltb m n ≡ false → n ≤ m
not_less m n h = grind (arith, nat_tests)

pub is_within : (limits : Figures) (m : Measure) → exceeded_by limits m.figures ≡ None → IsWithin limits m
is_within limits m e l =
    not_less (figure_of l limits) (figure_of l m.figures)
    (none_passes (λ l. ltb (figure_of l limits) (figure_of l m.figures)) e l)

-- ---- the same items by another numbering of the fragments

module _ (introspection : Introspection) (f g : Option Name → ℕ) (same : (o : Option Name) → f o ≡ g o) where
  own_same : (n : ℕ) (seen : List Name) (s : Located) → own_items f n seen s ≡ own_items g n seen s
  own_same n seen s =
      let p : Place = s.place in
      ap (λ m. cond (is_kind FIELD (kind_at p)) (field_items n (is_new seen (response_name p)))
      (cond (is_kind ALIAS (kind_at p)) (Alias ∷ []) (cond (is_kind DIRECTIVE (kind_at p)) (Directive ∷ [])
      (cond (is_kind FRAGMENT_SPREAD (kind_at p)) (Spread n m (span_at s) ∷ []) [])))) (same (name_in FRAGMENT_NAME p))

  joined : (xs ys zs us vs ws : List Item) → xs ≡ us → ys ≡ vs → zs ≡ ws → xs ++ (ys ++ zs) ≡ us ++ (vs ++ ws)
  joined xs ys zs us vs ws a b c = cc

  below_same : (d : ℕ) (whole : Forest) (n i : ℕ) (seen : List Name) (t : Forest)
      → items_below introspection d whole f n i seen t ≡ items_below introspection d whole g n i seen t
  below_same d whole n i seen no_tree = refl
  below_same d whole n i seen (leaf k s rest) = below_same d whole n (suc i) seen rest
  below_same d whole n i seen (node k kids rest) =
      let p : Place = record { whole = whole; index = i } in
      ap₂ (λ (xs ys : List Item). cond (is_counted introspection p) xs ys)
      (joined (own_items f n seen (located d p)) (items_below introspection d whole f (inside n p) (suc i) [] kids)
      (items_below introspection d whole f n (suc (i + count kids)) (seen_after seen p) rest)
      (own_items g n seen (located d p)) (items_below introspection d whole g (inside n p) (suc i) [] kids)
      (items_below introspection d whole g n (suc (i + count kids)) (seen_after seen p) rest)
      (own_same n seen (located d p)) (below_same d whole (inside n p) (suc i) [] kids)
      (below_same d whole n (suc (i + count kids)) (seen_after seen p) rest))
      (below_same d whole n (suc (i + count kids)) seen rest)

  all_same : (vs : List ExecutableDefinition)
      → map (λ (d : ExecutableDefinition). definition_items introspection f (as_located d.site)) vs
      ≡ map (λ (d : Defined). definition_items introspection g d.site) (map as_defined vs)
  all_same [] = refl
  all_same (v ∷ vs) =
      let p = node_place v.site.node in
      ap (λ xs. xs ∷ map (λ (d : ExecutableDefinition). definition_items introspection f (as_located d.site)) vs)
      (below_same v.site.document p.whole 0 (suc p.index) [] (tree_kids
      (tree_at p)))
      ∙ ap (λ xss. definition_items introspection g (as_located v.site) ∷ xss) (all_same vs)

same_number : (entries : Entries ℕ) (names : List (Option Name)) → AreFirstNumbers entries names → (o : Option Name)
    → number_of entries o ≡ number_in names o
same_number entries names are None = refl
same_number entries names are (Some s) = ap (λ o. unwrap_or o (2 ^ 64 - 1)) (are s)

pub items_are : (introspection : Introspection) (entries : Entries ℕ) (vs : List ExecutableDefinition)
    → AreFirstNumbers entries (fragment_names (map as_defined vs))
    → map (λ (d : ExecutableDefinition). definition_items introspection (number_of entries) (as_located d.site)) vs
    ≡ items_of introspection (map as_defined vs)
items_are introspection entries vs are =
    all_same introspection (number_of entries) (number_in (fragment_names (map as_defined vs)))
    (same_number entries (fragment_names (map as_defined vs)) are) vs

-- ---- the operations

either_append : (b : Bool) (k : ℕ) (xs ys zs : List ℕ) → ys ≡ xs ++ zs → cond b (k ∷ ys) ys ≡ cond b (k ∷ xs) xs ++ zs
either_append true k xs ys zs e = ap (λ ks. k ∷ ks) e
either_append false k xs ys zs e = e

operations-append : (m : Option ℕ) (i : ℕ) (xs : List Defined) (y : Defined)
    → operations m i (xs ++ y ∷ []) ≡ operations m i xs ++ cond (is_measured m y) ((i + length xs) ∷ []) []
operations-append m i [] y = ap (λ j. cond (is_measured m y) (j ∷ []) []) (let h : i ≡ i + 0 = omega arith in h)
operations-append m i (x ∷ xs) y =
    let step : suc i + length xs ≡ i + suc (length xs) = omega arith in
    either_append (is_measured m x) i (operations m (suc i) xs) (operations m (suc i) (xs ++ y ∷ []))
    (cond (is_measured m y) ((i + suc (length xs)) ∷ []) [])
    (operations-append m (suc i) xs y ∙ ap (λ j. operations m (suc i) xs ++ cond (is_measured m y) (j ∷ []) []) step)

module _ (m : Option ℕ) (vs : List ExecutableDefinition) (n : ℕ) (v : ExecutableDefinition) (h : n < length vs)
    (is : v ≡ get_or vs n v) where
  more : map as_defined (take (n + 1) vs) ≡ map as_defined (take n vs) ++ as_defined v ∷ []
  more = ap (map as_defined) (take_more vs n v h) ∙ map-append as_defined (take n vs) (get_or vs n v ∷ [])
      ∙ ap (λ d. map as_defined (take n vs) ++ as_defined d ∷ []) (sym is)

  pub record Longer (ds : List ExecutableDefinition) (numbers : List ℕ) : Type 0 where
    pub operations_are : map as_defined ds ≡ filter (is_measured m) (map as_defined (take (n + 1) vs))
    pub numbers_are : numbers ≡ operations m 0 (map as_defined (take (n + 1) vs))

  length_so_far : 0 + length (map as_defined (take n vs)) ≡ n
  length_so_far = omega (arith, length-map (take n vs) as_defined, length-take n vs)

  pub one_more : (ds es : List ExecutableDefinition) (ks ms : List ℕ) → true ≡ is_measured m (as_defined v)
      → map as_defined ds ≡ filter (is_measured m) (map as_defined (take n vs))
      → ks ≡ operations m 0 (map as_defined (take n vs))
      → es ≡ ds ++ v ∷ [] → ms ≡ ks ++ n ∷ [] → Longer es ms
  one_more ds es ks ms is_one d e es_are ms_are = record {
    operations_are = ap (map as_defined) es_are ∙ map-append as_defined ds (v ∷ [])
        ∙ ap (λ xs. xs ++ as_defined v ∷ []) d
        ∙ ap (λ b. filter (is_measured m) (map as_defined (take n vs)) ++ cond b (as_defined v ∷ []) []) is_one
        ∙ sym (ap (filter (is_measured m)) more
        ∙ filter-append (is_measured m) (map as_defined (take n vs)) (as_defined v ∷ []));
    numbers_are = ms_are ∙ ap (λ xs. xs ++ n ∷ []) e
        ∙ ap (λ j. operations m 0 (map as_defined (take n vs)) ++ j ∷ []) (sym length_so_far)
        ∙ ap (λ b. operations m 0 (map as_defined (take n vs))
        ++ cond b ((0 + length (map as_defined (take n vs))) ∷ []) []) is_one
        ∙ sym (ap (operations m 0) more ∙ operations-append m 0 (map as_defined (take n vs)) (as_defined v));
  }

  pub none_more : (ds es : List ExecutableDefinition) (ks ms : List ℕ) → false ≡ is_measured m (as_defined v)
      → map as_defined ds ≡ filter (is_measured m) (map as_defined (take n vs))
      → ks ≡ operations m 0 (map as_defined (take n vs))
      → es ≡ ds → ms ≡ ks → Longer es ms
  none_more ds es ks ms is_none d e es_are ms_are = record {
    operations_are = ap (map as_defined) es_are ∙ d
        ∙ sym (append-nil (filter (is_measured m) (map as_defined (take n vs))))
        ∙ ap (λ b. filter (is_measured m) (map as_defined (take n vs)) ++ cond b (as_defined v ∷ []) []) is_none
        ∙ sym (ap (filter (is_measured m)) more
        ∙ filter-append (is_measured m) (map as_defined (take n vs)) (as_defined v ∷ []));
    numbers_are = ms_are ∙ e ∙ sym (append-nil (operations m 0 (map as_defined (take n vs))))
        ∙ ap (λ b. operations m 0 (map as_defined (take n vs))
        ++ cond b ((0 + length (map as_defined (take n vs))) ∷ []) []) is_none
        ∙ sym (ap (operations m 0) more ∙ operations-append m 0 (map as_defined (take n vs)) (as_defined v));
  }

either_below : (n : ℕ) (b : Bool) (k : ℕ) (ks : List ℕ) → k < n → All (λ r. r < n) ks
    → All (λ r. r < n) (cond b (k ∷ ks) ks)
either_below n true k ks h a = All-cons (λ r. r < n) k ks h a
either_below n false k ks h a = a

operations-in_range : (m : Option ℕ) (i n : ℕ) (ds : List Defined) → i + length ds ≤ n
    → All (λ r. r < n) (operations m i ds)
operations-in_range m i n [] h = λ k d b. absurd (omega arith)
operations-in_range m i n (x ∷ ds) h =
    either_below n (is_measured m x) i (operations m (suc i) ds) (omega arith)
    (operations-in_range m (suc i) n ds (omega arith))

pub in_range : {V : Type 0} (introspection : Introspection) (m : Option ℕ) (f : V → List Item) (vs : List V)
    (ds : List Defined) (roots : List ℕ) → map f vs ≡ items_of introspection ds → roots ≡ operations m 0 ds
    → All (λ r. r < length vs) roots
in_range introspection m f vs ds roots e is =
    subst (All (λ r. r < length vs)) (sym is) (operations-in_range m 0 (length vs) ds (omega (
      arith,
      length-map vs f,
      ap (λ xs. length xs) e,
      length-map ds
          (λ (d : Defined). definition_items introspection (number_in (fragment_names ds)) d.site),
    )))

either_length : (b : Bool) (k : ℕ) (ks : List ℕ) (d : Defined) (ds : List Defined) → length ks ≡ length ds
    → length (cond b (k ∷ ks) ks) ≡ length (cond b (d ∷ ds) ds)
either_length true k ks d ds e = ap suc e
either_length false k ks d ds e = e

length-operations : (m : Option ℕ) (i : ℕ) (ds : List Defined)
    → length (operations m i ds) ≡ length (filter (is_measured m) ds)
length-operations m i [] = refl
length-operations m i (x ∷ ds) =
    either_length (is_measured m x) i (operations m (suc i) ds) x (filter (is_measured m) ds)
    (length-operations m (suc i) ds)

length-measured : {d : List (List Item)} {rs : List ℕ} {fs : List Figures} → AreMeasured d rs fs → length rs ≡ length fs
length-measured none = refl
length-measured (next m ms) = ap suc (length-measured ms)

pub same_length : (m : Option ℕ) (d : List (List Item)) (ds : List Defined) (rs : List ℕ) (fs : List Figures)
    (os : List ExecutableDefinition) → AreMeasured d rs fs
    → rs ≡ operations m 0 ds → map as_defined os ≡ filter (is_measured m) ds → length os ≡ length fs
same_length m d ds rs fs os measured r o =
    sym (length-map os as_defined) ∙ ap (λ xs. length xs) o ∙ sym (length-operations m 0 ds)
    ∙ ap (λ xs. length xs) (sym r) ∙ length-measured measured
