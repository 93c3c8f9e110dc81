-- The definitions of some documents, and the names that they mention, are at places of their own.
use Rattle.std.proofs.Common.{◌≡◌, ◌≢◌, ℕ, suc, ◌<◌, ◌≤◌, List, [], ◌∷◌, length, map, Bool}
use Rattle.std.proofs.Common.{true, false, cond, Option, Some, None, arith, refl, sym, ap, ◌∙◌, ⊎_elim}
use Rattle.std.proofs.lemmas.List.Elements.{Contains-append_cases, Contains-get_or}
use Rattle.std.proofs.lemmas.List.Kept.{AllPairs-filter}
use Rattle.std.specs.List.{AllPairs, Contains}
use Rattle.std.specs.Prelude.{option_map}
use Rattle.document_grammar.specs.Numbers.{is_kind}
use Rattle.document_grammar.specs.declared.kind.SyntaxKind.TheVariants.{FRAGMENT_DEFINITION, OPERATION_DEFINITION}
use Rattle.apollo_tree.specs.Below.{at_or_below}
use Rattle.apollo_tree.specs.Children.{child_nodes, is_node_place}
use Rattle.apollo_tree.specs.Order.{Place, kind_at}
use Rattle.validation_names.proofs.Lists.{in_filter, in_filter_map}
use Rattle.validation_names.specs.Definitions.{Defined, defined, defined_at, name_as, named, named_definitions}
use Rattle.validation_names.specs.Mentions.{Named, mentioned, mentioned_name, mentions}
use Rattle.validation_names.specs.Names.{Name}
use Rattle.validation_names.specs.Sites.{Located, all_definitions, in_documents_from, located, nodes}
use Rattle.validation_names.specs.declared.executables.DefinitionKind.{DefinitionKind}
use Rattle.validation_names.specs.declared.name_mentions.MentionKind.{MentionKind}
use Rattle.validation_names.specs.declared.name_mentions.MentionKind.TheVariants.{Spread}
use Rattle.validation_rules.proofs.PairLemmas.{in_map, pairs_append, pairs_filter_map, pairs_map, pairs_none}
use Rattle.validation_rules.proofs.PairLemmas.{range_rises}
use Rattle.validation_rules.proofs.TreeLemmas.{IsBefore, below_range, child_nodes_apart, nodes_rise}
use Rattle.validation_rules.specs.Parts.{Parts, at, is_operation, nothing, numbers, operations, parts_in, parts_of}
use Rattle.validation_rules.specs.Parts.{site_at}

-- ---- places in several documents
-- In one document the places are so; places in two documents are never the same.
abbrev pub InOne : (Place → Place → Type 0) → Located → Located → Type 0
InOne R a b = a.document ≡ b.document → R a.place b.place

-- the subtree of the first ends before the second begins
abbrev pub ComeApart : Located → Located → Type 0
ComeApart a b = InOne IsBefore a b

-- no two items are at one place
abbrev pub AreApart : List Named → Type 0
AreApart items = AllPairs (λ a b. a.site ≢ b.site) items

pub differ : (a b : Located) → ComeApart a b → a ≢ b
differ a b apart same =
    let document : a.document ≡ b.document = ap (λ (s : Located). s.document) same in
    let index : a.place.index ≡ b.place.index = ap (λ (s : Located). s.place.index) same in
    let less = apart document in
    omega arith

later_document : (places : Place → List Place) (n : ℕ) (documents : List Place) (s : Located)
    → Contains (in_documents_from places n documents) s
    → n ≤ s.document
later_document places n [] s (k, below, is) = absurd (omega arith)
later_document places n (d ∷ ds) s there =
    ⊎_elim
    (λ (here : Contains (map (located n) (places d)) s).
    let (p, among, is) = in_map (located n) (places d) s here in
    let e : n ≡ s.document = ap (λ (x : Located). x.document) is in
    omega arith)
    (λ (later : Contains (in_documents_from places (suc n) ds) s). let l = later_document places (suc n) ds s later in
    omega arith)
    (Contains-append_cases (map (located n) (places d)) (in_documents_from places (suc n) ds) s there)

pub documents_apart : (places : Place → List Place) (R : Place → Place → Type 0) → ((d : Place) → AllPairs R (places d))
    → (n : ℕ) (documents : List Place)
    → AllPairs (InOne R) (in_documents_from places n documents)
documents_apart places R each n [] = pairs_none (InOne R)
documents_apart places R each n (d ∷ ds) =
    pairs_append (InOne R) (map (located n) (places d)) (in_documents_from places (suc n) ds)
    (pairs_map R (InOne R) (located n) (λ x y so same. so) (places d) (each d))
    (documents_apart places R each (suc n) ds)
    (λ a b at_a at_b same.
    let (p, among, is) = in_map (located n) (places d) a at_a in
    let e : n ≡ a.document = ap (λ (x : Located). x.document) is in
    let l = later_document places (suc n) ds b at_b in
    absurd (omega arith))

-- ---- names that are mentioned
pub named_site : (s : Located) (o : Option Name) (item : Named)
    → option_map (λ name. record { site = s; name = name }) o ≡ Some item → item.site ≡ s
named_site s None item e = absurd (cc)
named_site s (Some name) item e =
    let same : record { site = s; name = name } ≡ item = (cc) in
    ap (λ (i : Named). i.site) (sym same)

mention_site : (kind : MentionKind) (s : Located) (item : Named) → mentioned kind s ≡ Some item → item.site ≡ s
mention_site kind s item e = named_site s (mentioned_name kind s.place) item e

pub mentions_apart : (kind : MentionKind) (s : Located) → AreApart (mentions kind s)
mentions_apart kind s =
    pairs_filter_map (λ (a b : Located). a.place.index < b.place.index)
    (λ (a b : Named). a.site ≢ b.site) (mentioned kind)
    (λ x y a b less at_x at_y same.
    let e : x ≡ y = sym (mention_site kind x a at_x) ∙ same ∙ mention_site kind y b at_y in
    let i : x.place.index ≡ y.place.index = ap (λ (q : Located). q.place.index) e in
    omega arith)
    (map (located s.document) (nodes s.place))
    (pairs_map (λ (a b : Place). a.index < b.index) (λ (a b : Located). a.place.index < b.place.index)
    (located s.document) (λ x y less. less) (nodes s.place)
    (AllPairs-filter (λ (a b : Place). a.index < b.index) is_node_place (at_or_below s.place) (nodes_rise s.place)))

-- what is at or below a place of a document
pub record IsBelow (s : Located) (t : Located) : Type 0 where
  pub document : t.document ≡ s.document
  pub below : Contains (at_or_below s.place) t.place

pub mention_below : (kind : MentionKind) (s : Located) (item : Named)
    → Contains (mentions kind s) item → IsBelow s item.site
mention_below kind s item there =
    let (t, among, e) = in_filter_map (mentioned kind) (map (located s.document) (nodes s.place)) item there in
    let (p, inside, is) = in_map (located s.document) (nodes s.place) t among in
    rw (mention_site kind t item e, ← is)
    (record { document = refl; below = (in_filter is_node_place (at_or_below s.place) p inside).0 })

-- what is below two places that come apart differs
pub below_differ : (s t a b : Located) → ComeApart s t → IsBelow s a → IsBelow t b → a ≢ b
below_differ s t a b apart first second same =
    let document : s.document ≡ t.document =
    sym first.document ∙ ap (λ (x : Located). x.document) same ∙ second.document in
    let before = apart document in
    let one = below_range s.place a.place first.below in
    let other = below_range t.place b.place second.below in
    let index : a.place.index ≡ b.place.index = ap (λ (x : Located). x.place.index) same in
    omega (arith, one.1, other.0)

-- ---- definitions
chosen_site : (s : Located) (first second : Defined) → first.site ≡ s → second.site ≡ s → (a b : Bool) (d : Defined)
    → cond a (Some first) (cond b (Some second) None) ≡ Some d → d.site ≡ s
chosen_site s first second is_first is_second true b d e = let same : first ≡ d = (cc) in rw same at is_first
chosen_site s first second is_first is_second false true d e = let same : second ≡ d = (cc) in rw same at is_second
chosen_site s first second is_first is_second false false d e = absurd (cc)

defined_site : (s : Located) (d : Defined) → defined_at s ≡ Some d → d.site ≡ s
defined_site s d e = chosen_site s _ _ refl refl (is_kind OPERATION_DEFINITION (kind_at s.place))
    (is_kind FRAGMENT_DEFINITION (kind_at s.place)) d e

pub definitions_apart : (documents : List Place) → AllPairs ComeApart (all_definitions documents)
definitions_apart documents = documents_apart child_nodes IsBefore child_nodes_apart 0 documents

defined_apart : (documents : List Place) → AllPairs (λ (a b : Defined). ComeApart a.site b.site) (defined documents)
defined_apart documents =
    pairs_filter_map ComeApart (λ (a b : Defined). ComeApart a.site b.site) defined_at
    (λ x y a b before at_x at_y. rw (defined_site x a at_x, defined_site y b at_y) before)
    (all_definitions documents) (definitions_apart documents)

pub named_apart : (kind : DefinitionKind) (documents : List Place)
    → AreApart (named_definitions kind (defined documents))
named_apart kind documents =
    pairs_filter_map (λ (a b : Defined). ComeApart a.site b.site) (λ (a b : Named). a.site ≢ b.site) (named kind)
    (λ x y a b before at_x at_y same.
    differ x.site y.site before
    (sym (named_site x.site (name_as kind x) a at_x) ∙ same ∙ named_site y.site (name_as kind y) b at_y))
    (defined documents) (defined_apart documents)

-- ---- the parts of some documents
module _ (documents : List Place) where
  abbrev ds : List Parts
  ds = parts_in documents

  parts_apart : AllPairs (λ (a b : Parts). ComeApart a.definition.site b.definition.site) (parts_in documents)
  parts_apart =
      pairs_map (λ (a b : Defined). ComeApart a.site b.site)
      (λ (a b : Parts). ComeApart a.definition.site b.definition.site) parts_of
      (λ a b before. before) (defined documents) (defined_apart documents)

  pub sites_apart : (j k : ℕ) → j < k → k < length (parts_in documents)
      → ComeApart (site_at (parts_in documents) j) (site_at (parts_in documents) k)
  sites_apart j k less below = parts_apart j k nothing less below

  pub part_is : (k : ℕ) → k < length (parts_in documents)
      → at (parts_in documents) k ≡ parts_of (at (parts_in documents) k).definition
  part_is k below =
      let (d, there, e) = in_map parts_of (defined documents) (at (parts_in documents) k)
      (Contains-get_or (parts_in documents) k nothing below) in
      sym e ∙ ap (λ (x : Parts). parts_of x.definition) e

  pub spreads_apart : (k : ℕ) → k < length (parts_in documents) → AreApart (at (parts_in documents) k).spreads
  spreads_apart k below =
      rw (ap (λ (d : Parts). d.spreads) (part_is k below)) (mentions_apart Spread (site_at (parts_in documents) k))

  pub spread_below : (k : ℕ) → k < length (parts_in documents) → (item : Named)
      → Contains (at (parts_in documents) k).spreads item
      → IsBelow (site_at (parts_in documents) k) item.site
  spread_below k below item there =
      mention_below Spread (site_at (parts_in documents) k) item
      (rw (ap (λ (d : Parts). d.spreads) (part_is k below)) at there)

-- ---- operations
pub numbers_rise : (ds : List Parts) → AllPairs (λ j k. j < k) (numbers ds)
numbers_rise ds = range_rises 0 (length ds)

pub operations_rise : (ds : List Parts) → AllPairs (λ j k. j < k) (operations ds)
operations_rise ds = AllPairs-filter (λ x y. x < y) (λ number. is_operation (at ds number))
    (numbers ds) (numbers_rise ds)
