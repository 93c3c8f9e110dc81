-- Nothing breaks a rule twice.
use Rattle.std.proofs.Common.{◌≡◌, ◌≢◌, ℕ, zero, suc, ◌<◌, ◌≤◌, List, [], ◌∷◌, ◌++◌, length, map, Bool, true, false}
use Rattle.std.proofs.Common.{cond, ◌&&◌, Option, Some, None, arith, refl, sym, ap, ◌∙◌, not, eqb, eq-eqb, ⊎_elim}
use Rattle.std.proofs.lemmas.List.Elements.{Contains-append_cases, Contains-append_left, Contains-append_right}
use Rattle.std.proofs.lemmas.List.Kept.{AllPairs-filter}
use Rattle.std.proofs.lemmas.Option.{same_Some}
use Rattle.std.specs.List.{Contains, list_all}
use Rattle.apollo_tree.specs.Below.{at_or_below}
use Rattle.apollo_tree.specs.Children.{child_nodes, is_node_place}
use Rattle.apollo_tree.specs.Order.{Place, parent_place}
use Rattle.validation_names.proofs.Lists.{in_filter_map, in_range}
use Rattle.validation_names.specs.Definitions.{defined, named_definitions}
use Rattle.validation_names.specs.Mentions.{Named}
use Rattle.validation_names.specs.OwnNames.{own_name}
use Rattle.validation_names.specs.Sites.{Located, located, nodes}
use Rattle.validation_names.specs.declared.executables.DefinitionKind.TheVariants.{Operation, Fragment}
use Rattle.validation_rules.proofs.ApartLemmas.{AreApart, below_differ, differ, named_apart, named_site, numbers_rise}
use Rattle.validation_rules.proofs.ApartLemmas.{operations_rise, sites_apart, spread_below, spreads_apart}
use Rattle.validation_rules.proofs.PairLemmas.{in_flat_map, in_map, pairs_append, pairs_filter_map, pairs_flat_map}
use Rattle.validation_rules.proofs.PairLemmas.{pairs_map}
use Rattle.validation_rules.proofs.SpreadLemmas.{operations_inside}
use Rattle.validation_rules.proofs.TreeLemmas.{IsBefore, child_node_parent, child_nodes_apart, nodes_rise}
use Rattle.validation_rules.specs.Broken.{beside, not_alone, not_alone_at, on_cycle_at, on_cycles, repeats, through}
use Rattle.validation_rules.specs.Broken.{variables, undefined_spreads, undefined_spreads_at, unused_fragment_at}
use Rattle.validation_rules.specs.Broken.{unused_fragments}
use Rattle.validation_rules.specs.Parts.{at, is_anonymous, is_fragment_name, numbers, operations, parts_in, reaches}
use Rattle.validation_rules.specs.Parts.{site_at}
use Rattle.validation_rules.specs.RuleNumbers.{rule_number}
use Rattle.validation_rules.specs.Violations.{Breach, breach}
use Rattle.validation_rules.specs.declared.violations.Rule.{Rule}
use Rattle.validation_rules.specs.declared.violations.Rule.TheVariants as rule
use Rattle.document_validation.proofs.DifferLemmas.{Differ, IsAbout, none_differ, of_none, of_one, one_differs}
use Rattle.document_validation.proofs.DifferLemmas.{repeats_about, repeats_differ, singles_differ, unknown_about}
use Rattle.document_validation.proofs.DifferLemmas.{unknown_differ}
use Rattle.document_validation.proofs.VariableLemmas.{variables_differ, variables_rule}
use Rattle.document_validation.specs.Breaches.{breaches, foreign_as, foreign_at, foreign_in, judged_list, of_each}
use Rattle.document_validation.specs.Breaches.{of_each_from, repeats_as, repeats_at, repeats_in, rule_of}
use Rattle.document_validation.specs.Lists.{document_kind, is_executable, item_of, items_of}
use Rattle.document_validation.specs.declared.lists.DocumentKind.{DocumentKind}
use Rattle.document_validation.specs.declared.lists.DocumentKind.TheVariants.{Executable, TypeSystem}
use Rattle.document_validation.specs.declared.lists.NamedList.{NamedList}
use Rattle.document_validation.specs.declared.lists.NamedList.TheVariants as list

-- ---- definitions
module _ (documents : List Place) where
  number_inside : (k : ℕ) → Contains (numbers (parts_in documents)) k → k < length (parts_in documents)
  number_inside k there = let l = in_range 0 (length (parts_in documents)) k there in omega arith

  sites_differ : (j k : ℕ) → j < k → k < length (parts_in documents)
      → site_at (parts_in documents) j ≢ site_at (parts_in documents) k
  sites_differ j k less below =
      differ (site_at (parts_in documents) j) (site_at (parts_in documents) k) (sites_apart documents j k less below)

  beside_about : (n : ℕ) (o : Option ℕ) (b : Breach) → Contains (beside (parts_in documents) n o) b
      → IsAbout rule.LoneAnonymousOperation (site_at (parts_in documents) n) b
  beside_about n None b there = of_none rule.LoneAnonymousOperation (site_at (parts_in documents) n) b there
  beside_about n (Some k) b there =
      of_one rule.LoneAnonymousOperation (site_at (parts_in documents) n) (Some (site_at (parts_in documents) k))
      b there

  beside_differs : (n : ℕ) (o : Option ℕ) → Differ (beside (parts_in documents) n o)
  beside_differs n None = none_differ
  beside_differs n (Some k) =
      one_differs (breach rule.LoneAnonymousOperation (site_at (parts_in documents) n)
      (Some (site_at (parts_in documents) k)))

  alone_about : (n : ℕ) (o : Option ℕ) (anonymous : Bool) (b : Breach)
      → Contains (cond anonymous (beside (parts_in documents) n o) []) b
      → IsAbout rule.LoneAnonymousOperation (site_at (parts_in documents) n) b
  alone_about n o true b there = beside_about n o b there
  alone_about n o false b there = of_none rule.LoneAnonymousOperation (site_at (parts_in documents) n) b there

  alone_differs : (n : ℕ) (o : Option ℕ) (anonymous : Bool)
      → Differ (cond anonymous (beside (parts_in documents) n o) [])
  alone_differs n o true = beside_differs n o
  alone_differs n o false = none_differ

  pub not_alone_differ : Differ (not_alone (parts_in documents))
  not_alone_differ =
      singles_differ rule.LoneAnonymousOperation (not_alone_at (parts_in documents))
      (site_at (parts_in documents)) (λ j k. j < k)
      (operations (parts_in documents)) (operations_rise (parts_in documents))
      (λ n. alone_differs n _ (is_anonymous (at (parts_in documents) n)))
      (λ n b there. alone_about n _ (is_anonymous (at (parts_in documents) n)) b there)
      (λ j k at_j at_k less. sites_differ j k less (operations_inside (parts_in documents) k at_k))

  pub not_alone_rule : (b : Breach) → Contains (not_alone (parts_in documents)) b → b.rule ≡ rule.LoneAnonymousOperation
  not_alone_rule b there =
      let (n, among, has) = in_flat_map (not_alone_at (parts_in documents)) (operations (parts_in documents)) b there in
      (alone_about n _ (is_anonymous (at (parts_in documents) n)) b has).rule

  unused_about : (n : ℕ) (used : Bool) (b : Breach)
      → Contains (cond used [] (breach rule.NoUnusedFragments (site_at (parts_in documents) n) None ∷ [])) b
      → IsAbout rule.NoUnusedFragments (site_at (parts_in documents) n) b
  unused_about n true b there = of_none rule.NoUnusedFragments (site_at (parts_in documents) n) b there
  unused_about n false b there = of_one rule.NoUnusedFragments (site_at (parts_in documents) n) None b there

  unused_differs : (n : ℕ) (used : Bool)
      → Differ (cond used [] (breach rule.NoUnusedFragments (site_at (parts_in documents) n) None ∷ []))
  unused_differs n true = none_differ
  unused_differs n false = one_differs (breach rule.NoUnusedFragments (site_at (parts_in documents) n) None)

  pub unused_differ : Differ (unused_fragments (parts_in documents))
  unused_differ =
      singles_differ rule.NoUnusedFragments (unused_fragment_at (parts_in documents))
      (site_at (parts_in documents)) (λ j k. j < k)
      (numbers (parts_in documents)) (numbers_rise (parts_in documents))
      (λ n. unused_differs n (reaches (parts_in documents) (operations (parts_in documents)) n))
      (λ n b there. unused_about n (reaches (parts_in documents) (operations (parts_in documents)) n) b there)
      (λ j k at_j at_k less. sites_differ j k less (number_inside k at_k))

  pub unused_rule : (b : Breach) → Contains (unused_fragments (parts_in documents)) b → b.rule ≡ rule.NoUnusedFragments
  unused_rule b there =
      let (n, among, has) = in_flat_map (unused_fragment_at (parts_in documents)) (numbers (parts_in documents))
      b there in
      (unused_about n (reaches (parts_in documents) (operations (parts_in documents)) n) b has).rule

  through_about : (n : ℕ) (o : Option ℕ) (b : Breach) → Contains (through (parts_in documents) n o) b
      → IsAbout rule.NoFragmentCycles (site_at (parts_in documents) n) b
  through_about n None b there = of_none rule.NoFragmentCycles (site_at (parts_in documents) n) b there
  through_about n (Some k) b there =
      of_one rule.NoFragmentCycles (site_at (parts_in documents) n) (Some (site_at (parts_in documents) k)) b there

  through_differs : (n : ℕ) (o : Option ℕ) → Differ (through (parts_in documents) n o)
  through_differs n None = none_differ
  through_differs n (Some k) =
      one_differs (breach rule.NoFragmentCycles (site_at (parts_in documents) n)
      (Some (site_at (parts_in documents) k)))

  pub cycles_differ : Differ (on_cycles (parts_in documents))
  cycles_differ =
      singles_differ rule.NoFragmentCycles (on_cycle_at (parts_in documents))
      (site_at (parts_in documents)) (λ j k. j < k)
      (numbers (parts_in documents)) (numbers_rise (parts_in documents)) (λ n. through_differs n _)
      (λ n b there. through_about n _ b there)
      (λ j k at_j at_k less. sites_differ j k less (number_inside k at_k))

  pub cycles_rule : (b : Breach) → Contains (on_cycles (parts_in documents)) b → b.rule ≡ rule.NoFragmentCycles
  cycles_rule b there =
      let (n, among, has) = in_flat_map (on_cycle_at (parts_in documents)) (numbers (parts_in documents)) b there in
      (through_about n _ b has).rule

  pub spreads_differ : Differ (undefined_spreads (parts_in documents))
  spreads_differ =
      pairs_flat_map (λ j k. j < k) (λ a b. a ≢ b) (undefined_spreads_at (parts_in documents))
      (numbers (parts_in documents))
      (numbers_rise (parts_in documents))
      (λ n there.
      unknown_differ rule.KnownFragmentNames None (is_fragment_name (parts_in documents))
      (at (parts_in documents) n).spreads
      (spreads_apart documents n (number_inside n there)))
      (λ j k at_j at_k less a b has_a has_b same.
      let (rule_a, (one, among, is)) =
      unknown_about rule.KnownFragmentNames None (is_fragment_name (parts_in documents))
      (at (parts_in documents) j).spreads a has_a in
      let (rule_b, (other, within, at_other)) =
      unknown_about rule.KnownFragmentNames None (is_fragment_name (parts_in documents))
      (at (parts_in documents) k).spreads b has_b in
      below_differ (site_at (parts_in documents) j) (site_at (parts_in documents) k) one.site other.site
      (sites_apart documents j k less (number_inside k at_k))
      (spread_below documents j (number_inside j at_j) one among)
      (spread_below documents k (number_inside k at_k) other within)
      (sym is ∙ ap (λ (x : Breach). x.site) same ∙ at_other))

  pub spreads_rule : (b : Breach) → Contains (undefined_spreads (parts_in documents)) b
      → b.rule ≡ rule.KnownFragmentNames
  spreads_rule b there =
      let (n, among, has) = in_flat_map (undefined_spreads_at (parts_in documents)) (numbers (parts_in documents))
      b there in
      (unknown_about rule.KnownFragmentNames None (is_fragment_name (parts_in documents))
      (at (parts_in documents) n).spreads b has).0

-- ---- one document after another
later_one : (f : ℕ → Place → List Breach)
    → ((n : ℕ) (d : Place) (b : Breach) → Contains (f n d) b → b.site.document ≡ n)
    → (n : ℕ) (ds : List Place) (b : Breach)
    → Contains (of_each_from f n ds) b → n ≤ b.site.document
later_one f own n [] b (k, below, is) = absurd (omega arith)
later_one f own n (d ∷ ds) b there =
    ⊎_elim
    (λ (here : Contains (f n d) b). let e = own n d b here in omega arith)
    (λ (later : Contains (of_each_from f (suc n) ds) b). let l = later_one f own (suc n) ds b later in omega arith)
    (Contains-append_cases (f n d) (of_each_from f (suc n) ds) b there)

pub each_differ : (f : ℕ → Place → List Breach)
    → ((n : ℕ) (d : Place) (b : Breach) → Contains (f n d) b → b.site.document ≡ n)
    → ((n : ℕ) (d : Place) → Differ (f n d)) → (n : ℕ) (ds : List Place) → Differ (of_each_from f n ds)
each_differ f own each n [] = none_differ
each_differ f own each n (d ∷ ds) =
    pairs_append (λ a b. a ≢ b) (f n d) (of_each_from f (suc n) ds) (each n d) (each_differ f own each (suc n) ds)
    (λ a b at_a at_b same.
    let e = own n d a at_a in
    let l = later_one f own (suc n) ds b at_b in
    let document : a.site.document ≡ b.site.document = ap (λ (x : Breach). x.site.document) same in
    omega arith)

each_rule : (P : Rule → Type 0) (f : ℕ → Place → List Breach)
    → ((n : ℕ) (d : Place) (b : Breach) → Contains (f n d) b → P b.rule) → (n : ℕ) (ds : List Place)
    (b : Breach) → Contains (of_each_from f n ds) b → P b.rule
each_rule P f own n [] b (k, below, is) = absurd (omega arith)
each_rule P f own n (d ∷ ds) b there =
    ⊎_elim
    (λ (here : Contains (f n d) b). own n d b here)
    (λ (later : Contains (of_each_from f (suc n) ds) b). each_rule P f own (suc n) ds b later)
    (Contains-append_cases (f n d) (of_each_from f (suc n) ds) b there)

-- ---- definitions that are not executable
foreign_about : (s : Located) (executable : Bool) (b : Breach)
    → Contains (cond executable [] (breach rule.ExecutableDefinitions s None ∷ [])) b
    → IsAbout rule.ExecutableDefinitions s b
foreign_about s true b there = of_none rule.ExecutableDefinitions s b there
foreign_about s false b there = of_one rule.ExecutableDefinitions s None b there

foreign_differs : (s : Located) (executable : Bool)
    → Differ (cond executable [] (breach rule.ExecutableDefinitions s None ∷ []))
foreign_differs s true = none_differ
foreign_differs s false = one_differs (breach rule.ExecutableDefinitions s None)

foreign_is : (kind : DocumentKind) (n : ℕ) (d : Place) (b : Breach) → Contains (foreign_as kind n d) b
    → (b.rule ≡ rule.ExecutableDefinitions) × (b.site.document ≡ n)
foreign_is TypeSystem n d b (k, below, is) = absurd (omega arith)
foreign_is Executable n d b there =
    let (p, among, has) = in_flat_map (λ p. foreign_at (located n p)) (child_nodes d) b there in
    let about = foreign_about (located n p) (is_executable p) b has in
    (about.rule, ap (λ (s : Located). s.document) about.site)

foreign_in_one : (kind : DocumentKind) (n : ℕ) (d : Place) → Differ (foreign_as kind n d)
foreign_in_one TypeSystem n d = none_differ
foreign_in_one Executable n d =
    singles_differ rule.ExecutableDefinitions (λ p. foreign_at (located n p)) (located n) IsBefore
    (child_nodes d) (child_nodes_apart d)
    (λ p. foreign_differs (located n p) (is_executable p))
    (λ p b there. foreign_about (located n p) (is_executable p) b there)
    (λ p q at_p at_q before same. let e : p.index ≡ q.index = ap (λ (s : Located). s.place.index) same in omega arith)

-- ---- lists
pub items_apart : (s : Located) → AreApart (items_of s)
items_apart s =
    pairs_filter_map (λ (a b : Located). IsBefore a.place b.place) (λ (a b : Named). a.site ≢ b.site) item_of
    (λ x y a b before at_x at_y same.
    let e : x ≡ y = sym (named_site x (own_name x.place) a at_x) ∙ same ∙ named_site y (own_name y.place) b at_y in
    let i : x.place.index ≡ y.place.index = ap (λ (q : Located). q.place.index) e in
    omega arith)
    (map (located s.document) (child_nodes s.place))
    (pairs_map IsBefore (λ (a b : Located). IsBefore a.place b.place) (located s.document)
    (λ x y before. before) (child_nodes s.place)
    (child_nodes_apart s.place))

-- an item is a child of its list
item_parent : (s : Located) (item : Named) → Contains (items_of s) item
    → (parent_place item.site.place ≡ Some s.place) × (item.site.document ≡ s.document)
item_parent s item there =
    let (t, among, e) = in_filter_map item_of (map (located s.document) (child_nodes s.place)) item there in
    let (p, inside, is) = in_map (located s.document) (child_nodes s.place) t among in
    let site : item.site ≡ located s.document p = named_site t (own_name t.place) item e ∙ sym is in (
      ap (λ (x : Located). parent_place x.place) site
          ∙ child_node_parent s.place p inside,
      ap (λ (x : Located). x.document) site,
    )

-- the rules that are about lists
abbrev IsListRule : Rule → Type 0
IsListRule r = (l : NamedList) × (r ≡ rule_of l)

record IsItem (s : Located) (b : Breach) : Type 0 where
  rule : IsListRule b.rule
  parent : parent_place b.site.place ≡ Some s.place
  document : b.site.document ≡ s.document

list_item : (o : Option NamedList) (s : Located) (b : Breach) → Contains (repeats_as o s) b → IsItem s b
list_item None s b (k, below, is) = absurd (omega arith)
list_item (Some l) s b there =
    let (r, (item, among, is)) = repeats_about (rule_of l) (items_of s) b there in
    let (parent, document) = item_parent s item among in
    record {
      rule = (l, r);
      parent = ap (λ (x : Located). parent_place x.place) is ∙ parent;
      document = ap (λ (x : Located). x.document) is ∙ document;
    }

list_pairs : (o : Option NamedList) (s : Located) → Differ (repeats_as o s)
list_pairs None s = none_differ
list_pairs (Some l) s = repeats_differ (rule_of l) (items_of s) (items_apart s)

lists_item : (n : ℕ) (d : Place) (b : Breach) → Contains (repeats_in n d) b → IsListRule b.rule × (b.site.document ≡ n)
lists_item n d b there =
    let (p, among, has) = in_flat_map (λ p. repeats_at (document_kind d) (located n p)) (nodes d) b there in
    let item = list_item (judged_list (document_kind d) p) (located n p) b has in
    (item.rule, item.document)

lists_in_one : (n : ℕ) (d : Place) → Differ (repeats_in n d)
lists_in_one n d =
    pairs_flat_map (λ (a b : Place). a.index < b.index) (λ a b. a ≢ b)
    (λ p. repeats_at (document_kind d) (located n p)) (nodes d)
    (AllPairs-filter (λ (a b : Place). a.index < b.index) is_node_place (at_or_below d) (nodes_rise d))
    (λ p there. list_pairs (judged_list (document_kind d) p) (located n p))
    (λ p q at_p at_q less a b has_a has_b same.
    let one = list_item (judged_list (document_kind d) p) (located n p) a has_a in
    let other = list_item (judged_list (document_kind d) q) (located n q) b has_b in
    let e : p ≡ q = same_Some p q
    (sym one.parent ∙ ap (λ (x : Breach). parent_place x.site.place) same ∙ other.parent) in
    let i : p.index ≡ q.index = ap (λ (x : Place). x.index) e in
    omega arith)

both : (a b : Bool) → (a && b) ≡ true → (a ≡ true) × (b ≡ true)
both true b is = (refl, is)
both false b is = absurd (cc)

-- ---- all rules, by their numbers
abbrev HasNumbers : List ℕ → List Breach → Type 0
HasNumbers ns bs = (b : Breach) → Contains bs b → Contains ns (rule_number b.rule)

-- no number is in both lists
abbrev are_disjoint : List ℕ → List ℕ → Bool
are_disjoint ns ms = list_all (λ n. list_all (λ m. not (eqb n m)) ms) ns

all_pass : {A : Type 0} (test : A → Bool) (xs : List A) (x : A) → list_all test xs ≡ true
    → Contains xs x → test x ≡ true
all_pass test [] x all (k, below, is) = absurd (omega arith)
all_pass test (y ∷ ys) x all (zero, below, is) = ap test (sym is) ∙ (both (test y) (list_all test ys) all).0
all_pass test (y ∷ ys) x all (suc k, below, is) =
    all_pass test ys x (both (test y) (list_all test ys) all).1 (k, omega arith, is)

in_both : (ns ms : List ℕ) (n : ℕ) → are_disjoint ns ms ≡ true → Contains ns n → ¬ Contains ms n
in_both ns ms n disjoint first second =
    let passes = all_pass (λ m. not (eqb n m)) ms n
    (all_pass (λ k. list_all (λ m. not (eqb k m)) ms) ns n disjoint first) second in
    let same : eqb n n ≡ true = eq-eqb n n refl in
    let wrong : not true ≡ true = rw same at passes in
    cc

module _ (ns ms : List ℕ) (xs ys : List Breach) (first : HasNumbers ns xs) (second : HasNumbers ms ys) where
  both_numbers : HasNumbers (ns ++ ms) (xs ++ ys)
  both_numbers b there =
      ⊎_elim
      (λ (x : Contains xs b). Contains-append_left ns ms (rule_number b.rule) (first b x))
      (λ (y : Contains ys b). Contains-append_right ns ms (rule_number b.rule) (second b y))
      (Contains-append_cases xs ys b there)

  both_differ : are_disjoint ns ms ≡ true → Differ xs → Differ ys → Differ (xs ++ ys)
  both_differ disjoint pairs others =
      pairs_append (λ a b. a ≢ b) xs ys pairs others
      (λ a b at_a at_b same.
      in_both ns ms (rule_number b.rule) disjoint (rw (ap (λ (x : Breach). x.rule) same) at (first a at_a))
      (second b at_b))

one_number : (r : Rule) (bs : List Breach) → ((b : Breach) → Contains bs b → b.rule ≡ r)
    → HasNumbers (rule_number r ∷ []) bs
one_number r bs are b there = (0, omega arith, ap rule_number (sym (are b there)))

abbrev list_numbers : List ℕ
list_numbers = 3 ∷ 8 ∷ 9 ∷ 12 ∷ 13 ∷ 14 ∷ 15 ∷ 16 ∷ []

list_number : (l : NamedList) → Contains list_numbers (rule_number (rule_of l))
list_number list.Arguments = (0, omega arith, refl)
list_number list.ObjectFields = (1, omega arith, refl)
list_number list.Variables = (2, omega arith, refl)
list_number list.FieldDefinitions = (3, omega arith, refl)
list_number list.InputFieldDefinitions = (3, omega arith, refl)
list_number list.ArgumentDefinitions = (4, omega arith, refl)
list_number list.EnumValues = (5, omega arith, refl)
list_number list.UnionMembers = (6, omega arith, refl)
list_number list.Interfaces = (7, omega arith, refl)

module _ (documents : List Place) where
  foreign_numbers : HasNumbers (0 ∷ []) (of_each foreign_in documents)
  foreign_numbers = one_number rule.ExecutableDefinitions (of_each foreign_in documents)
      (each_rule (λ r. r ≡ rule.ExecutableDefinitions) foreign_in
      (λ n d b there. (foreign_is (document_kind d) n d b there).0) 0 documents)

  foreign_pairs : Differ (of_each foreign_in documents)
  foreign_pairs = each_differ foreign_in (λ n d b there. (foreign_is (document_kind d) n d b there).1)
      (λ n d. foreign_in_one (document_kind d) n d) 0 documents

  operations_named_numbers : HasNumbers (1 ∷ [])
      (repeats rule.UniqueOperationNames (named_definitions Operation (defined documents)))
  operations_named_numbers =
      one_number rule.UniqueOperationNames
      (repeats rule.UniqueOperationNames (named_definitions Operation (defined documents)))
      ((λ b there. (repeats_about rule.UniqueOperationNames (named_definitions Operation (defined documents))
      b there).0))

  operations_named_pairs : Differ (repeats rule.UniqueOperationNames (named_definitions Operation (defined documents)))
  operations_named_pairs =
      repeats_differ rule.UniqueOperationNames (named_definitions Operation (defined documents))
      (named_apart Operation documents)

  alone_numbers : HasNumbers (2 ∷ []) (not_alone (parts_in documents))
  alone_numbers = one_number rule.LoneAnonymousOperation (not_alone (parts_in documents))
      ((not_alone_rule documents))

  alone_pairs : Differ (not_alone (parts_in documents))
  alone_pairs = not_alone_differ documents

  fragments_named_numbers : HasNumbers (4 ∷ [])
      (repeats rule.UniqueFragmentNames (named_definitions Fragment (defined documents)))
  fragments_named_numbers =
      one_number rule.UniqueFragmentNames
      (repeats rule.UniqueFragmentNames (named_definitions Fragment (defined documents)))
      ((λ b there. (repeats_about rule.UniqueFragmentNames (named_definitions Fragment (defined documents)) b there).0))

  fragments_named_pairs : Differ (repeats rule.UniqueFragmentNames (named_definitions Fragment (defined documents)))
  fragments_named_pairs =
      repeats_differ rule.UniqueFragmentNames (named_definitions Fragment (defined documents))
      (named_apart Fragment documents)

  unused_numbers : HasNumbers (5 ∷ []) (unused_fragments (parts_in documents))
  unused_numbers = one_number rule.NoUnusedFragments (unused_fragments (parts_in documents))
      ((unused_rule documents))

  unused_pairs : Differ (unused_fragments (parts_in documents))
  unused_pairs = unused_differ documents

  spreads_numbers : HasNumbers (6 ∷ []) (undefined_spreads (parts_in documents))
  spreads_numbers = one_number rule.KnownFragmentNames (undefined_spreads (parts_in documents))
      ((spreads_rule documents))

  spreads_pairs : Differ (undefined_spreads (parts_in documents))
  spreads_pairs = spreads_differ documents

  cycles_numbers : HasNumbers (7 ∷ []) (on_cycles (parts_in documents))
  cycles_numbers = one_number rule.NoFragmentCycles (on_cycles (parts_in documents))
      ((cycles_rule documents))

  cycles_pairs : Differ (on_cycles (parts_in documents))
  cycles_pairs = cycles_differ documents

  variables_numbers : HasNumbers (10 ∷ 11 ∷ []) (variables (parts_in documents))
  variables_numbers b there =
      ⊎_elim
      (λ (undefined : b.rule ≡ rule.NoUndefinedVariables). (0, omega arith, ap rule_number (sym undefined)))
      (λ (unused : b.rule ≡ rule.NoUnusedVariables). (1, omega arith, ap rule_number (sym unused)))
      (variables_rule documents b there)

  variables_pairs : Differ (variables (parts_in documents))
  variables_pairs = variables_differ documents

  lists_numbers : HasNumbers list_numbers (of_each repeats_in documents)
  lists_numbers b there =
      let (l, is) = each_rule IsListRule repeats_in (λ n d b there. (lists_item n d b there).0) 0 documents b there in
      rw is (list_number l)

  lists_pairs : Differ (of_each repeats_in documents)
  lists_pairs = each_differ repeats_in (λ n d b there. (lists_item n d b there).1) lists_in_one 0 documents

  pub distinct_breaches : Differ (breaches documents)
  distinct_breaches =
      let two = (0 ∷ []) ++ (1 ∷ []) in
      let three = two ++ (2 ∷ []) in
      let four = three ++ list_numbers in
      let five = four ++ (4 ∷ []) in
      let six = five ++ (5 ∷ []) in
      let seven = six ++ (6 ∷ []) in
      let eight = seven ++ (7 ∷ []) in
      let numbers2 = both_numbers (0 ∷ []) (1 ∷ []) _ _ foreign_numbers operations_named_numbers in
      let pairs2 = both_differ (0 ∷ []) (1 ∷ []) _ _ foreign_numbers operations_named_numbers refl foreign_pairs
      operations_named_pairs in
      let numbers3 = both_numbers two (2 ∷ []) _ _ numbers2 alone_numbers in
      let pairs3 = both_differ two (2 ∷ []) _ _ numbers2 alone_numbers refl pairs2 alone_pairs in
      let numbers4 = both_numbers three list_numbers _ _ numbers3 lists_numbers in
      let pairs4 = both_differ three list_numbers _ _ numbers3 lists_numbers refl pairs3 lists_pairs in
      let numbers5 = both_numbers four (4 ∷ []) _ _ numbers4 fragments_named_numbers in
      let pairs5 = both_differ four (4 ∷ []) _ _ numbers4 fragments_named_numbers refl pairs4 fragments_named_pairs in
      let numbers6 = both_numbers five (5 ∷ []) _ _ numbers5 unused_numbers in
      let pairs6 = both_differ five (5 ∷ []) _ _ numbers5 unused_numbers refl pairs5 unused_pairs in
      let numbers7 = both_numbers six (6 ∷ []) _ _ numbers6 spreads_numbers in
      let pairs7 = both_differ six (6 ∷ []) _ _ numbers6 spreads_numbers refl pairs6 spreads_pairs in
      let numbers8 = both_numbers seven (7 ∷ []) _ _ numbers7 cycles_numbers in
      let pairs8 = both_differ seven (7 ∷ []) _ _ numbers7 cycles_numbers refl pairs7 cycles_pairs in
      both_differ eight (10 ∷ 11 ∷ []) _ _ numbers8 variables_numbers refl pairs8 variables_pairs
