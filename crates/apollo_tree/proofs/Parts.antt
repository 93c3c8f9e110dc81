-- An element's subtree is one part of the document order, and its children's ranges fill its own.
use Rattle.std.proofs.Common.{◌≡◌, ℕ, zero, suc, ◌+◌, ◌-◌, ◌<◌, ◌≤◌, List, [], ◌∷◌, ◌++◌, length, get_or, map, refl}
use Rattle.std.proofs.Common.{sym, ap, ◌∙◌, subst, ⊎_elim, arith, true, Option, Some, None}
use Rattle.std.proofs.lemmas.Bool.{cases_lt}
use Rattle.std.proofs.lemmas.List.{append-nil, append_assoc, length-append, get_or_append_left, get_or-append-add}
use Rattle.document_grammar.specs.Forests.{Forest, none, leaf, node, Tree, Leaf, Node, text, count}
use Rattle.apollo_tree.proofs.Places.{length-order, Cut, cut}
use Rattle.apollo_tree.specs.Children.{child_places}
use Rattle.apollo_tree.specs.Order.{Element, Place, element, order_from, order, nowhere, places, tree_at, tree_text}
use Rattle.apollo_tree.specs.Order.{tree_kids, is_node, range_at}
use Rattle.apollo_tree.specs.ReadBack.{length-records}
use Rattle.apollo_tree.specs.Records.{forest}
use Rattle.apollo_tree.specs.Table.{IsTable}
use Rattle.apollo_tree.specs.Tiled.{AreTiles}
use Rattle.apollo_tree.specs.declared.record.Record.{Record}

-- the order of trees of which the first has the place i, cut at the element with the number n
pub record Part (at i : ℕ) (p : Option ℕ) (f : Forest) (n : ℕ) (e : Element) : Type 0 where
  pub front : List Element
  pub back : List Element
  pub order : order_from at i p f ≡ front
      ++ (e ∷ (order_from e.start (suc (i + n)) (Some (i + n)) (tree_kids e.tree) ++ back))
  pub index : length front ≡ n
  pub children : e.children ≡ places (suc (i + n)) (tree_kids e.tree)

regroup : (xs front sub back ys : List Element) (e : Element)
    → xs ++ ((front ++ (e ∷ (sub ++ back))) ++ ys) ≡ (xs ++ front) ++ (e ∷ (sub ++ (back ++ ys)))
regroup xs front sub back ys e = simp append_assoc

-- the same cut in a longer order
moved_on : {at2 i2 : ℕ} {p2 : Option ℕ} {f2 : Forest} {n : ℕ} {e : Element} (xs ys : List Element) (at i : ℕ)
    (p : Option ℕ) (f : Forest) (m : ℕ)
    → Part at2 i2 p2 f2 n e → i2 + n ≡ i + m → length xs + n ≡ m
    → order_from at i p f ≡ xs ++ (order_from at2 i2 p2 f2 ++ ys) → Part at i p f m e
moved_on {at2} {i2} {p2} {f2} {n} {e} xs ys at i p f m c same l h = record {
  front = xs ++ c.front;
  back = c.back ++ ys;
  order =
      h ∙ ap (λ x. xs ++ (x ++ ys)) c.order
      ∙ regroup xs c.front (order_from e.start (suc (i2 + n)) (Some (i2 + n)) (tree_kids e.tree)) c.back ys e
      ∙ ap (λ j. (xs ++ c.front) ++ (e ∷ (order_from e.start (suc j) (Some j) (tree_kids e.tree) ++ (c.back ++ ys))))
      same;
  index = length-append xs c.front ∙ omega (arith, c.index);
  children = c.children ∙ ap (λ j. places (suc j) (tree_kids e.tree)) same;
}

pub part : (at i : ℕ) (p : Option ℕ) (f : Forest) (n : ℕ) (d : Element) → n < count f
    → Part at i p f n (get_or (order_from at i p f) n d)
part at i p none n d h = absurd (omega arith)
part at i p (leaf k s rest) zero d h =
    record { front = []; back = order_from (at + length s) (suc i) p rest; order = refl; index = refl; children = refl }
part at i p (leaf k s rest) (suc n) d h =
    let e : Element = record { tree = Leaf k s; start = at; parent = p; children = [] } in
    let ys = order_from (at + length s) (suc i) p rest in
    moved_on (e ∷ []) [] at i p (leaf k s rest) (suc n) (part (at + length s) (suc i) p rest n d (omega arith))
    (omega arith) (omega arith)
    (ap (λ x. e ∷ x) (sym (append-nil ys)))
part at i p (node k kids rest) zero d h =
    let same : i ≡ i + 0 = omega arith in
    let at2 = at + length (text kids) in
    let e : Element = record { tree = Node k kids; start = at; parent = p; children = places (suc i) kids } in
    let ys = order_from at2 (suc (i + count kids)) p rest in
    record {
      front = [];
      back = ys;
      order = ap (λ j. e ∷ (order_from at (suc j) (Some j) kids ++ ys)) same;
      index = refl;
      children = ap (λ j. places (suc j) kids) same;
    }
part at i p (node k kids rest) (suc n) d h =
    let at2 = at + length (text kids) in
    let e : Element = record { tree = Node k kids; start = at; parent = p; children = places (suc i) kids } in
    let inner = order_from at (suc i) (Some i) kids in
    let outer = order_from at2 (suc (i + count kids)) p rest in
    let l = length-order at (suc i) (Some i) kids in
    let f2 = node k kids rest in
    ⊎_elim
    (λ (lt : n < count kids).
    subst (λ x. Part at i p f2 (suc n) x) (sym (get_or_append_left inner outer d n (omega arith)))
    (moved_on (e ∷ []) outer at i p f2 (suc n) (part at (suc i) (Some i) kids n d lt) (omega arith) (omega arith) refl))
    (λ (ge : count kids ≤ n).
    let m = n - count kids in
    let q : get_or (inner ++ outer) n d ≡ get_or outer m d =
    ap (λ x. get_or (inner ++ outer) x d) (omega arith) ∙ get_or-append-add inner outer m d in
    subst (λ x. Part at i p f2 (suc n) x) (sym q)
    (moved_on (e ∷ inner) [] at i p f2 (suc n) (part at2 (suc (i + count kids)) p rest m d (omega arith))
    (omega arith) (omega arith)
    (ap (λ x. e ∷ (inner ++ x)) (sym (append-nil outer)))))
    (cases_lt n (count kids))

-- ---- tiles
abbrev pub spot : Forest → ℕ → Place
spot whole i = record { whole = whole; index = i }

abbrev ranges : Forest → List ℕ → List (ℕ × ℕ)
ranges whole is = map range_at (map (λ i. record { whole = whole; index = i }) is)

-- the elements of the trees are in the order of the whole, from the place i on
abbrev Stands : Forest → ℕ → ℕ → Option ℕ → Forest → Type 0
Stands whole at i p f =
    (k : ℕ) → k < count f → get_or (order whole) (i + k) nowhere ≡ get_or (order_from at i p f) k nowhere

first-range : (whole : Forest) (i : ℕ) (e : Element) → get_or (order whole) (i + 0) nowhere ≡ e
    → ◌≡◌ {A = ℕ × ℕ} (range_at (spot whole i)) (e.start, e.start + length (tree_text e.tree))
first-range whole i e h =
    let same : i ≡ i + 0 = omega arith in
    ap (λ (x : Element). (x.start, x.start + length (tree_text x.tree)))
    (ap (λ j. get_or (order whole) j nowhere) same ∙ h)

tile-first : (whole : Forest) (i from end to : ℕ) (is : List ℕ) → ◌≡◌ {A = ℕ × ℕ} (range_at (spot whole i)) (from, end)
    → AreTiles end to (ranges whole is)
    → AreTiles from to (ranges whole (i ∷ is))
tile-first whole i from end to is h rest =
    (ap (λ (r : ℕ × ℕ). r.0) h, subst (λ j. AreTiles j to (ranges whole is)) (sym (ap (λ (r : ℕ × ℕ). r.1) h)) rest)

tiles : (whole : Forest) (at i : ℕ) (p : Option ℕ) (f : Forest) → Stands whole at i p f
    → AreTiles at (at + length (text f)) (ranges whole (places i f))
tiles whole at i p none h = omega arith
tiles whole at i p (leaf k s rest) h =
    let e : Element = record { tree = Leaf k s; start = at; parent = p; children = [] } in
    let end : (at + length s) + length (text rest) ≡ at + length (s ++ text rest) =
    omega (arith, length-append s (text rest)) in
    tile-first whole i at (at + length s) (at + length (s ++ text rest)) (places (suc i) rest)
    (first-range whole i e (h 0 (omega arith)))
    (subst (λ j. AreTiles (at + length s) j (ranges whole (places (suc i) rest))) end
    (tiles whole (at + length s) (suc i) p rest
    (λ m b. ap (λ j. get_or (order whole) j nowhere) (omega arith) ∙ h (suc m) (omega arith))))
tiles whole at i p (node k kids rest) h =
    let e : Element = record { tree = Node k kids; start = at; parent = p; children = places (suc i) kids } in
    let at2 = at + length (text kids) in
    let inner = order_from at (suc i) (Some i) kids in
    let outer = order_from at2 (suc (i + count kids)) p rest in
    let l = length-order at (suc i) (Some i) kids in
    let end : at2 + length (text rest) ≡ at + length (text kids ++ text rest) =
    omega (arith, length-append (text kids) (text rest)) in
    tile-first whole i at at2 (at + length (text kids ++ text rest)) (places (suc (i + count kids)) rest)
    (first-range whole i e (h 0 (omega arith)))
    (subst (λ j. AreTiles at2 j (ranges whole (places (suc (i + count kids)) rest))) end
    (tiles whole at2 (suc (i + count kids)) p rest
    (λ m b.
    let past : get_or (inner ++ outer) (count kids + m) nowhere ≡ get_or outer m nowhere =
    ap (λ j. get_or (inner ++ outer) (j + m) nowhere) (sym l)
    ∙ get_or-append-add inner outer m nowhere in
    ap (λ j. get_or (order whole) j nowhere) (omega arith) ∙ h (suc (count kids + m)) (omega arith) ∙ past)))

-- ---- at an element of a table
node-text : (t : Tree) → is_node t ≡ true → tree_text t ≡ text (tree_kids t)
node-text (Leaf k s) h = absurd cc
node-text (Node k kids) h = refl

under-text : (t : Tree) → 0 < count (tree_kids t) → tree_text t ≡ text (tree_kids t)
under-text (Leaf k s) h = absurd (omega arith)
under-text (Node k kids) h = refl

module _ (rs : List Record) (s : List ℕ) (t : IsTable rs s) (i : ℕ) (h : i < length rs) where
  total : i < count (forest s rs)
  total = omega (arith, ap length t.table, length-records 0 0 (forest s rs))

  part_of : Part 0 0 None (forest s rs) i (element (spot (forest s rs) i))
  part_of = part 0 0 None (forest s rs) i nowhere total

  -- the elements of its children's trees
  pub stands : Stands (forest s rs) (element (spot (forest s rs) i)).start (suc i) (Some i)
      (tree_kids (tree_at (spot (forest s rs) i)))
  stands k b =
      let e = element (spot (forest s rs) i) in
      let c = part_of in
      let plain : 0 + i ≡ i = omega arith in
      let sub = order_from e.start (suc i) (Some i) (tree_kids e.tree) in
      let l : length sub ≡ count (tree_kids e.tree) = length-order e.start (suc i) (Some i) (tree_kids e.tree) in
      let whole : order (forest s rs) ≡ c.front ++ (e ∷ (sub ++ c.back)) = c.order
      ∙ ap (λ j. c.front ++ (e ∷ (order_from e.start (suc j) (Some j) (tree_kids e.tree) ++ c.back))) plain in
      let at : suc i + k ≡ length c.front + suc k = omega (arith, c.index) in
      ap (λ x. get_or x (suc i + k) nowhere) whole
      ∙ ap (λ j. get_or (c.front ++ (e ∷ (sub ++ c.back))) j nowhere) at
      ∙ get_or-append-add c.front (e ∷ (sub ++ c.back)) (suc k) nowhere
      ∙ get_or_append_left sub c.back nowhere k (omega arith)

  pub children-at : (element (spot (forest s rs) i)).children
      ≡ places (suc i) (tree_kids (tree_at (spot (forest s rs) i)))
  children-at =
      let plain : 0 + i ≡ i = omega arith in
      part_of.children ∙ ap (λ j. places (suc j) (tree_kids (tree_at (spot (forest s rs) i)))) plain

  -- the ranges of its children, in order, fill its own
  pub children-tile : is_node (tree_at (spot (forest s rs) i)) ≡ true
      → AreTiles (range_at (spot (forest s rs) i)).0 (range_at (spot (forest s rs) i)).1
      (map range_at (child_places (spot (forest s rs) i)))
  children-tile n =
      let e = element (spot (forest s rs) i) in
      let kids = tree_kids e.tree in
      let end : e.start + length (text kids) ≡ e.start + length (tree_text e.tree) =
      ap (λ x. e.start + length x) (sym (node-text e.tree n)) in
      let filled : AreTiles e.start (e.start + length (text kids)) (ranges (forest s rs) (places (suc i) kids)) =
      tiles (forest s rs) e.start (suc i)
      (Some i) kids stands in
      let ended : AreTiles e.start (e.start + length (tree_text e.tree)) (ranges (forest s rs) (places (suc i) kids)) =
      subst
      (λ j. AreTiles e.start j (ranges (forest s rs) (places (suc i) kids))) end filled in
      subst (λ is. AreTiles e.start (e.start + length (tree_text e.tree)) (ranges (forest s rs) is))
      (sym children-at) ended

  -- the range of each element below it lies within its own
  pub within : (k : ℕ) → k < count (tree_kids (tree_at (spot (forest s rs) i)))
      → ((range_at (spot (forest s rs) i)).0 ≤ (range_at (spot (forest s rs) (suc i + k))).0)
      × ((range_at (spot (forest s rs) (suc i + k))).1 ≤ (range_at (spot (forest s rs) i)).1)
  within k b =
      let e = element (spot (forest s rs) i) in
      let kids = tree_kids e.tree in
      let x = get_or (order_from e.start (suc i) (Some i) kids) k nowhere in
      let same : element (spot (forest s rs) (suc i + k)) ≡ x = stands k b in
      let c : Cut e.start 1 kids k x = cut e.start 1 (suc i) (Some i) kids k nowhere b in
      let begins : (element (spot (forest s rs) (suc i + k))).start ≡ x.start = ap (λ (y : Element). y.start) same in
      let long : length (tree_text (element (spot (forest s rs) (suc i + k))).tree)
      ≡ length (tree_text x.tree) = ap (λ (y : Element). length (tree_text y.tree)) same in
      let parts : length (text kids) ≡ length c.before + (length (tree_text x.tree) + length c.after) =
      ap length c.words ∙ length-append c.before (tree_text x.tree ++ c.after)
      ∙ ap (λ n. length c.before + n) (length-append (tree_text x.tree) c.after) in
      let own : length (tree_text e.tree) ≡ length (text kids) = ap length (under-text e.tree (omega arith)) in
      (omega (arith, c.begins), omega (arith, c.begins))
