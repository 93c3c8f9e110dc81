-- Elements of a tree that differ: those in one subtree, the children of one element, and the children of two.
use Rattle.std.proofs.Common.{◌≡◌, ℕ, zero, suc, ◌+◌, ◌<◌, ◌≤◌, List, [], ◌∷◌, ◌++◌, length, get_or, refl, sym, ap, ◌∙◌}
use Rattle.std.proofs.Common.{subst, arith, ⊎_elim, Option, Some, None}
use Rattle.std.proofs.lemmas.Bool.{cases_lt}
use Rattle.std.proofs.lemmas.List.{get_or_append_left, get_or-append-add, get_or_past}
use Rattle.std.proofs.lemmas.List.Elements.{Contains-get_or}
use Rattle.std.proofs.lemmas.List.Kept.{AllPairs-cons, AllPairs-filter}
use Rattle.std.specs.List.{AllPairs, Contains}
use Rattle.std.specs.Prelude.{option_map}
use Rattle.document_grammar.specs.Forests.{Forest, none, leaf, node, Leaf, Node, text, count}
use Rattle.apollo_tree.proofs.Parts.{Part, part}
use Rattle.apollo_tree.proofs.Places.{length-order}
use Rattle.apollo_tree.specs.Below.{at_or_below, places_from}
use Rattle.apollo_tree.specs.Children.{child_nodes, child_places, is_node_place}
use Rattle.apollo_tree.specs.Order.{Element, Place, element, nowhere, order, order_from, parent_place, places, tree_at}
use Rattle.apollo_tree.specs.Order.{tree_kids}
use Rattle.validation_names.proofs.Lists.{in_filter}
use Rattle.validation_rules.proofs.PairLemmas.{in_map, pairs_map, pairs_none}

abbrev element_in : Forest → ℕ → Element
element_in whole i = get_or (order whole) i nowhere

-- how many elements are below one
abbrev size_in : Forest → ℕ → ℕ
size_in whole i = count (tree_kids (element_in whole i).tree)

-- the elements of the trees are in the order of the whole, from the place i on
abbrev Stands : Forest → ℕ → ℕ → Option ℕ → Forest → Type 0
Stands whole at i p f =
    (k : ℕ) → k < count f → get_or (order whole) (i + k) nowhere ≡ get_or (order_from at i p f) k nowhere

first_stands : (whole : Forest) (i : ℕ) (e : Element) → get_or (order whole) (i + 0) nowhere ≡ e
    → element_in whole i ≡ e
first_stands whole i e h = let same : i ≡ i + 0 = omega arith in ap (λ j. get_or (order whole) j nowhere) same ∙ h

after_leaf : (whole : Forest) (at i : ℕ) (p : Option ℕ) (k : _) (s : List ℕ) (rest : Forest)
    → Stands whole at i p (leaf k s rest)
    → Stands whole (at + length s) (suc i) p rest
after_leaf whole at i p k s rest h m b =
    ap (λ j. get_or (order whole) j nowhere) (omega arith) ∙ h (suc m) (omega arith)

after_node : (whole : Forest) (at i : ℕ) (p : Option ℕ) (k : _) (kids rest : Forest)
    → Stands whole at i p (node k kids rest)
    → Stands whole (at + length (text kids)) (suc (i + count kids)) p rest
after_node whole at i p k kids rest h m b =
    let inner = order_from at (suc i) (Some i) kids in
    let outer = order_from (at + length (text kids)) (suc (i + count kids)) p rest in
    let l = length-order at (suc i) (Some i) kids in
    let past : get_or (inner ++ outer) (count kids + m) nowhere ≡ get_or outer m nowhere =
    ap (λ j. get_or (inner ++ outer) (j + m) nowhere) (sym l)
    ∙ get_or-append-add inner outer m nowhere in
    ap (λ j. get_or (order whole) j nowhere) (omega arith) ∙ h (suc (count kids + m)) (omega arith) ∙ past

-- one of some trees begins at the place c: its subtree lies within theirs, and its parent is theirs
record IsTop (whole : Forest) (i end : ℕ) (p : Option ℕ) (c : ℕ) : Type 0 where
  pub from : i ≤ c
  pub within : c + size_in whole c < end
  pub parent : (element_in whole c).parent ≡ p

first_top : (whole : Forest) (i end : ℕ) (p : Option ℕ) (e : Element) → get_or (order whole) (i + 0) nowhere ≡ e
    → i + count (tree_kids e.tree) < end
    → e.parent ≡ p → (c : ℕ) → i ≡ c → IsTop whole i end p c
first_top whole i end p e h less parent c same =
    let is = first_stands whole i e h in
    subst (IsTop whole i end p) same (record { from = omega arith; within = rw is less; parent = rw is parent })

later_top : (whole : Forest) (i j end : ℕ) (p : Option ℕ) (c : ℕ) → i ≤ j → IsTop whole j end p c
    → IsTop whole i end p c
later_top whole i j end p c le top = record { from = omega (arith, top.from); within = top.within; parent = top.parent }

tops : (whole : Forest) (at i end : ℕ) (p : Option ℕ) (f : Forest) → Stands whole at i p f → i + count f ≤ end → (c : ℕ)
    → Contains (places i f) c
    → IsTop whole i end p c
tops whole at i end p none h le c (k, below, is) = absurd (omega arith)
tops whole at i end p (leaf k s rest) h le c (zero, below, is) =
    first_top whole i end p (record { tree = Leaf k s; start = at; parent = p; children = [] }) (h 0 (omega arith))
    (omega arith) refl c is
tops whole at i end p (leaf k s rest) h le c (suc n, below, is) =
    later_top whole i (suc i) end p c (omega arith)
    (tops whole (at + length s) (suc i) end p rest (after_leaf whole at i p k s rest h) (omega arith)
    c (n, omega arith, is))
tops whole at i end p (node k kids rest) h le c (zero, below, is) =
    first_top whole i end p (record { tree = Node k kids; start = at; parent = p; children = places (suc i) kids })
    (h 0 (omega arith)) (omega arith) refl c is
tops whole at i end p (node k kids rest) h le c (suc n, below, is) =
    later_top whole i (suc (i + count kids)) end p c (omega arith)
    (tops whole (at + length (text kids)) (suc (i + count kids)) end p rest (after_node whole at i p k kids rest h)
    (omega arith) c (n, omega arith, is))

-- the subtree of each ends before the next begins
abbrev EndsBefore : Forest → ℕ → ℕ → Type 0
EndsBefore whole a b = a + size_in whole a < b

apart : (whole : Forest) (at i : ℕ) (p : Option ℕ) (f : Forest) → Stands whole at i p f
    → AllPairs (EndsBefore whole) (places i f)
apart whole at i p none h = pairs_none (EndsBefore whole)
apart whole at i p (leaf k s rest) h =
    let e : Element = record { tree = Leaf k s; start = at; parent = p; children = [] } in
    let is : element_in whole i ≡ e = first_stands whole i e (h 0 (omega arith)) in
    let none_below : size_in whole i ≡ 0 = ap (λ (x : Element). count (tree_kids x.tree)) is in
    let below = after_leaf whole at i p k s rest h in
    AllPairs-cons (EndsBefore whole) i (places (suc i) rest)
    (λ n d inside.
    let b = get_or (places (suc i) rest) n d in
    let top = tops whole (at + length s) (suc i) (suc i + count rest) p rest below (omega arith) b
    (Contains-get_or (places (suc i) rest) n d inside) in
    omega (arith, top.from, none_below))
    (apart whole (at + length s) (suc i) p rest below)
apart whole at i p (node k kids rest) h =
    let next = suc (i + count kids) in
    let e : Element = record { tree = Node k kids; start = at; parent = p; children = places (suc i) kids } in
    let is : element_in whole i ≡ e = first_stands whole i e (h 0 (omega arith)) in
    let many_below : size_in whole i ≡ count kids = ap (λ (x : Element). count (tree_kids x.tree)) is in
    let below = after_node whole at i p k kids rest h in
    AllPairs-cons (EndsBefore whole) i (places next rest)
    (λ n d inside.
    let b = get_or (places next rest) n d in
    let top = tops whole (at + length (text kids)) next (next + count rest) p rest below (omega arith) b
    (Contains-get_or (places next rest) n d inside) in
    omega (arith, top.from, many_below))
    (apart whole (at + length (text kids)) next p rest below)

-- ---- the children of an element
module _ (p : Place) (inside : p.index < count p.whole) where
  part_of : Part 0 0 None p.whole p.index (element p)
  part_of = part 0 0 None p.whole p.index nowhere inside

  children_stand : Stands p.whole (element p).start (suc p.index) (Some p.index) (tree_kids (tree_at p))
  children_stand k b =
      let e = element p in
      let c = part_of in
      let plain : 0 + p.index ≡ p.index = omega arith in
      let sub = order_from e.start (suc p.index) (Some p.index) (tree_kids e.tree) in
      let l : length sub ≡ count (tree_kids e.tree) =
      length-order e.start (suc p.index) (Some p.index) (tree_kids e.tree) in
      let all : order p.whole ≡ c.front ++ (e ∷ (sub ++ c.back)) = c.order
      ∙ ap (λ j. c.front ++ (e ∷ (order_from e.start (suc j) (Some j) (tree_kids e.tree) ++ c.back))) plain in
      let at : suc p.index + k ≡ length c.front + suc k = omega (arith, c.index) in
      ap (λ x. get_or x (suc p.index + k) nowhere) all
      ∙ ap (λ j. get_or (c.front ++ (e ∷ (sub ++ c.back))) j nowhere) at
      ∙ get_or-append-add c.front (e ∷ (sub ++ c.back)) (suc k) nowhere
      ∙ get_or_append_left sub c.back nowhere k (omega arith)

  children_are : (element p).children ≡ places (suc p.index) (tree_kids (tree_at p))
  children_are =
      let plain : 0 + p.index ≡ p.index = omega arith in
      part_of.children ∙ ap (λ j. places (suc j) (tree_kids (tree_at p))) plain

  inside_apart : AllPairs (EndsBefore p.whole) (element p).children
  inside_apart = rw children_are
      (apart p.whole (element p).start (suc p.index) (Some p.index) (tree_kids (tree_at p)) children_stand)

  inside_parent : (c : ℕ) → Contains (element p).children c → (element_in p.whole c).parent ≡ Some p.index
  inside_parent c there =
      let kids = tree_kids (tree_at p) in
      let top = tops p.whole (element p).start (suc p.index) (suc p.index + count kids) (Some p.index) kids
      children_stand (omega arith) c
      (rw children_are at there) in
      top.parent

-- outside of the tree there are none
no_children : (p : Place) → count p.whole ≤ p.index → (element p).children ≡ []
no_children p past =
    let l = length-order 0 0 None p.whole in
    ap (λ (e : Element). e.children) (get_or_past (order p.whole) p.index nowhere (omega arith))

children_apart : (p : Place) → AllPairs (EndsBefore p.whole) (element p).children
children_apart p =
    ⊎_elim
    (λ (inside : p.index < count p.whole). inside_apart p inside)
    (λ (past : count p.whole ≤ p.index). rw (no_children p past) (pairs_none (EndsBefore p.whole)))
    (cases_lt p.index (count p.whole))

-- the subtree of an element ends before another element of the tree
abbrev pub IsBefore : Place → Place → Type 0
IsBefore a b = a.index + count (tree_kids (tree_at a)) < b.index

pub child_nodes_apart : (p : Place) → AllPairs IsBefore (child_nodes p)
child_nodes_apart p =
    AllPairs-filter IsBefore is_node_place (child_places p)
    (pairs_map (EndsBefore p.whole) IsBefore (λ i. record { whole = p.whole; index = i }) (λ a b less. less)
    (element p).children (children_apart p))

none_there : (xs : List ℕ) (i : ℕ) → xs ≡ [] → ¬ Contains xs i
none_there xs i empty there = let (k, below, is) = rw empty at there in omega arith

child_parent : (p : Place) (i : ℕ) → Contains (element p).children i → (element_in p.whole i).parent ≡ Some p.index
child_parent p i there =
    ⊎_elim
    (λ (inside : p.index < count p.whole). inside_parent p inside i there)
    (λ (past : count p.whole ≤ p.index). absurd (none_there (element p).children i (no_children p past) there))
    (cases_lt p.index (count p.whole))

pub child_node_parent : (p c : Place) → Contains (child_nodes p) c → parent_place c ≡ Some p
child_node_parent p c there =
    let is_child = (in_filter is_node_place (child_places p) c there).0 in
    let (i, at, same) = in_map (λ i. record { whole = p.whole; index = i }) (element p).children c is_child in
    ap parent_place (sym same) ∙ ap (option_map (λ j. record { whole = p.whole; index = j })) (child_parent p i at)

-- ---- the elements at and below one
from_range : (whole : Forest) (i n : ℕ) (q : Place) → Contains (places_from whole i n) q
    → (i ≤ q.index) × (q.index < i + n)
from_range whole i zero q (k, below, is) = absurd (omega arith)
from_range whole i (suc n) q (zero, below, is) = let e : i ≡ q.index = ap (λ (x : Place). x.index) is in
    (omega arith, omega arith)
from_range whole i (suc n) q (suc k, below, is) =
    let (from, to) = from_range whole (suc i) n q (k, omega arith, is) in
    (omega arith, omega arith)

from_rises : (whole : Forest) (i n : ℕ) → AllPairs (λ (a b : Place). a.index < b.index) (places_from whole i n)
from_rises whole i zero = pairs_none (λ (a b : Place). a.index < b.index)
from_rises whole i (suc n) =
    AllPairs-cons (λ (a b : Place). a.index < b.index) (record { whole = whole; index = i })
    (places_from whole (suc i) n)
    (λ k d below.
    let b = get_or (places_from whole (suc i) n) k d in
    let (from, to) = from_range whole (suc i) n b (Contains-get_or (places_from whole (suc i) n) k d below) in
    omega arith)
    (from_rises whole (suc i) n)

pub below_range : (p q : Place) → Contains (at_or_below p) q
    → (p.index ≤ q.index) × (q.index ≤ p.index + count (tree_kids (tree_at p)))
below_range p q there =
    let (from, to) = from_range p.whole p.index (suc (count (tree_kids (tree_at p)))) q there in
    (from, omega arith)

pub nodes_rise : (root : Place) → AllPairs (λ (a b : Place). a.index < b.index) (at_or_below root)
nodes_rise root = from_rises root.whole root.index (suc (count (tree_kids (tree_at root))))
