-- Parts of a tree's order: their first node, and the children of an element.
use Rattle.std.proofs.Common.{◌≡◌, ℕ, suc, ◌+◌, ◌<◌, ◌≤◌, List, [], ◌∷◌, ◌++◌, length, get_or, map, refl, sym, ap, ◌∙◌}
use Rattle.std.proofs.Common.{subst, arith, Option, Some, None, Bool, true, false, cond}
use Rattle.std.proofs.lemmas.List.{append_assoc, append-nil, length-append, get_or_at}
use Rattle.std.specs.List.{filter}
use Rattle.document_grammar.specs.Forests.{Forest, none, leaf, node, Leaf, Node, text, count}
use Rattle.document_grammar.specs.Numbers.{is_kind}
use Rattle.document_grammar.specs.declared.kind.SyntaxKind.{SyntaxKind}
use Rattle.document_grammar.specs.declared.kind.SyntaxKind.TheVariants.{FIELD}
use Rattle.apollo_tree.proofs.Parts.{part}
use Rattle.apollo_tree.proofs.Places.{length-order}
use Rattle.apollo_tree.specs.Children.{child_nodes, is_node_place}
use Rattle.apollo_tree.specs.Order.{Element, Place, element, order_from, order, nowhere, places, tree_at, tree_kids}
use Rattle.apollo_tree.specs.Order.{kind_at, is_node}
use Rattle.apollo_tree.specs.ReadBack.{length-records}
use Rattle.apollo_tree.specs.References.{node_place}
use Rattle.apollo_tree.specs.declared.node.SyntaxNode.{SyntaxNode}
use Rattle.validation_names.specs.Names.{Name, Entries}
use Rattle.validation_names.specs.Sites.{Located, located}
use Rattle.cost_figures.specs.declared.items.Item.{Item}
use Rattle.cost_limits.specs.Collecting.{ArePart, nodes_from, AreNames, IsLeft, IsNoted, Adds}
use Rattle.cost_limits.specs.Items.{spot as at, items_of, inside, is_counted, seen_after, items_below, items_inside}
use Rattle.cost_limits.specs.Items.{is_among, is_new, with_name, response_name, field_items, other_items}
use Rattle.cost_limits.specs.declared.introspection.Introspection.{Introspection}

regroup : (xs ys zs us : List Element) (e : Element) → xs ++ ((e ∷ (ys ++ zs)) ++ us) ≡ (xs ++ (e ∷ ys)) ++ (zs ++ us)
regroup xs ys zs us e = simp append_assoc

its_element : (whole : Forest) (i : ℕ) (before after : List Element) (e : Element)
    → order whole ≡ before ++ (e ∷ after) → length before ≡ i
    → element (at whole i) ≡ e
its_element whole i before after e is begins =
    ap (λ es. get_or es i nowhere) is ∙ get_or_at before e after nowhere i begins

-- the part after a leaf, and the part after a node and the one below it
after_leaf : (whole : Forest) (i end : ℕ) (k : SyntaxKind) (t : List ℕ) (rest : Forest)
    → ArePart whole i end (leaf k t rest) → ArePart whole (suc i) end rest
after_leaf whole i end k t rest s =
    let e : Element = record { tree = Leaf k t; start = s.start; parent = s.parent; children = [] } in
    record {
      start = s.start + length t;
      parent = s.parent;
      before = s.before ++ (e ∷ []);
      after = s.after;
      is = s.is ∙ regroup s.before [] (order_from (s.start + length t) (suc i) s.parent rest) s.after e;
      begins = length-append s.before (e ∷ []) ∙ omega (arith, s.begins);
      ends = omega (arith, s.ends);
    }

leaf_there : (whole : Forest) (i end : ℕ) (k : SyntaxKind) (t : List ℕ) (rest : Forest)
    → ArePart whole i end (leaf k t rest)
    → tree_at (at whole i) ≡ Leaf k t
leaf_there whole i end k t rest s =
    let e : Element = record { tree = Leaf k t; start = s.start; parent = s.parent; children = [] } in
    ap (λ (x : Element). x.tree)
    (its_element whole i s.before (order_from (s.start + length t) (suc i) s.parent rest ++ s.after) e s.is s.begins)

module _ (whole : Forest) (i end : ℕ) (k : SyntaxKind) (kids rest : Forest)
    (s : ArePart whole i end (node k kids rest)) where
  its : Element
  its = record { tree = Node k kids; start = s.start; parent = s.parent; children = places (suc i) kids }

  inner : List Element
  inner = order_from s.start (suc i) (Some i) kids

  outer : List Element
  outer = order_from (s.start + length (text kids)) (suc (i + count kids)) s.parent rest

  node_there : tree_at (at whole i) ≡ Node k kids
  unfolding its inner outer
  node_there = ap (λ (x : Element). x.tree)
      (its_element whole i s.before ((inner ++ outer) ++ s.after) its s.is s.begins)

  after_node : ArePart whole (suc (i + count kids)) end rest
  unfolding its inner outer
  after_node = record {
    start = s.start + length (text kids);
    parent = s.parent;
    before = s.before ++ (its ∷ inner);
    after = s.after;
    is = s.is ∙ regroup s.before inner outer s.after its;
    begins = length-append s.before (its ∷ inner) ∙ omega (arith, s.begins, length-order s.start (suc i) (Some i) kids);
    ends = omega (arith, s.ends);
  }

-- the nodes among the elements with these indices
nodes_at : Forest → List ℕ → List Place
nodes_at whole is = filter is_node_place (map (λ i. record { whole = whole; index = i }) is)

nodes-part : (whole : Forest) (i end : ℕ) (f : Forest) → ArePart whole i end f
    → nodes_at whole (places i f) ≡ nodes_from whole i f
unfolding nodes_at
nodes-part whole i end none s = refl
nodes-part whole i end (leaf k t rest) s =
    ap (λ t. cond (is_node t) (at whole i ∷ nodes_at whole (places (suc i) rest))
    (nodes_at whole (places (suc i) rest))) (leaf_there whole i end k t rest s)
    ∙ nodes-part whole (suc i) end rest (after_leaf whole i end k t rest s)
nodes-part whole i end (node k kids rest) s =
    ap (λ t. cond (is_node t) (at whole i ∷ nodes_at whole (places (suc (i + count kids)) rest))
    (nodes_at whole (places (suc (i + count kids)) rest)))
    (node_there whole i end k kids rest s)
    ∙ ap (λ ps. at whole i ∷ ps)
    (nodes-part whole (suc (i + count kids)) end rest (after_node whole i end k kids rest s))

-- the trees below an element
kids_part : (p : Place) → p.index < length (order p.whole)
    → ArePart p.whole (suc p.index) (suc (p.index + count (tree_kids (tree_at p)))) (tree_kids (tree_at p))
kids_part p h =
    let e = element p in
    let c = part 0 0 None p.whole p.index nowhere (omega (arith, length-order 0 0 None p.whole)) in
    let zero_add : 0 + p.index ≡ p.index = omega arith in
    let kids = tree_kids e.tree in
    record {
      start = e.start;
      parent = Some (0 + p.index);
      before = c.front ++ (e ∷ []);
      after = c.back;
      is = c.order ∙ sym (append_assoc c.front (e ∷ [])
          (order_from e.start (suc (0 + p.index)) (Some (0 + p.index)) kids ++ c.back))
          ∙ ap (λ j. (c.front ++ (e ∷ [])) ++ (order_from e.start (suc j) (Some (0 + p.index)) kids ++ c.back))
          zero_add;
      begins = length-append c.front (e ∷ []) ∙ omega (arith, c.index);
      ends = omega arith;
    }

kids_places : (p : Place) → p.index < length (order p.whole)
    → (element p).children ≡ places (suc p.index) (tree_kids (tree_at p))
kids_places p h =
    let c = part 0 0 None p.whole p.index nowhere (omega (arith, length-order 0 0 None p.whole)) in
    let zero_add : 0 + p.index ≡ p.index = omega arith in
    c.children ∙ ap (λ j. places (suc j) (tree_kids (tree_at p))) zero_add

child_nodes-are : (p : Place) → p.index < length (order p.whole)
    → child_nodes p ≡ nodes_from p.whole (suc p.index) (tree_kids (tree_at p))
unfolding nodes_at
child_nodes-are p h =
    ap (λ is. nodes_at p.whole is) (kids_places p h)
    ∙ nodes-part p.whole (suc p.index) (suc (p.index + count (tree_kids (tree_at p))))
    (tree_kids (tree_at p)) (kids_part p h)

-- ---- what is left of the children

-- a node is an element of its tree
pub in_range : (n : SyntaxNode) → (node_place n).index < length (order (node_place n).whole)
in_range n =
    omega (
      arith,
      n.inside,
      ap (λ rs. length rs) n.table.is_table.table,
      length-records 0 0 (node_place n).whole,
      length-order 0 0 None (node_place n).whole,
    )

-- `d` is the number of the document
module _ (introspection : Introspection) (d : ℕ) (p : Place) (number : Option Name → ℕ) (n : ℕ) where
  pub left_first : (old : List Item) (names : Entries (Unit {0})) (left : List Place)
      → p.index < length (order p.whole) → left ≡ child_nodes p → AreNames names []
      → IsLeft introspection d p number n (old ++ items_inside introspection number n (located d p)) old names left
  left_first old names left h e none_yet = record {
    rest = tree_kids (tree_at p);
    index = suc p.index;
    end = suc (p.index + count (tree_kids (tree_at p)));
    seen = [];
    part = kids_part p h;
    further = omega arith;
    left_are = e ∙ child_nodes-are p h;
    names_are = none_yet;
    same = refl;
  }

  -- what there is of a child, `q`, and after it: `rest` is after it, and `seen` are the response names before it
  abbrev pub counted : Place → ℕ → List Name → Forest → List Item
  counted q index seen rest =
      items_of number n seen (located d q)
      ++ (items_below introspection d p.whole number (inside n q) (suc q.index) [] (tree_kids (tree_at q))
      ++ items_below introspection d p.whole number n index (seen_after seen q) rest)

  -- the next child, `q`, and what is left after it
  pub record Next (all found : List Item) (seen : List Name) (q : Place) (more : List Place) : Type 0 where
    pub rest : Forest
    pub index : ℕ
    pub end : ℕ
    pub part : ArePart p.whole index end rest
    pub further : p.index < index
    pub more_are : more ≡ nodes_from p.whole index rest
    pub whole : q.whole ≡ p.whole
    pub later : p.index < q.index
    pub same : found ++ cond (is_counted introspection q) (counted q index seen rest)
        (items_below introspection d p.whole number n index seen rest) ≡ all

  heads : (x y : Place) (xs ys : List Place) → ◌≡◌ {A = List Place} (x ∷ xs) (y ∷ ys) → x ≡ y
  heads x y xs ys e = cc

  tails : (x y : Place) (xs ys : List Place) → ◌≡◌ {A = List Place} (x ∷ xs) (y ∷ ys) → xs ≡ ys
  tails x y xs ys e = cc

  none_more : (x : Place) (xs : List Place) → ◌≡◌ {A = List Place} (x ∷ xs) [] → ⊥
  none_more x xs e = cc

  next_of : (all found : List Item) (seen : List Name) (q : Place) (more : List Place) (i end : ℕ) (rest : Forest)
      → ArePart p.whole i end rest → p.index < i
      → q ∷ more ≡ nodes_from p.whole i rest → found ++ items_below introspection d p.whole number n i seen rest ≡ all
      → Next all found seen q more
  next_of all found seen q more i end none s b e h = absurd (none_more q more e)
  next_of all found seen q more i end (leaf k t rest) s b e h =
      next_of all found seen q more (suc i) end rest (after_leaf p.whole i end k t rest s) (omega arith) e h
  next_of all found seen q more i end (node k kids rest) s b e h =
      let r = nodes_from p.whole (suc (i + count kids)) rest in
      let its_kids : tree_kids (tree_at (at p.whole i)) ≡ kids =
      ap tree_kids (node_there p.whole i end k kids rest s) in
      subst (λ x. Next all found seen x more) (sym (heads q (at p.whole i) more r e)) (record {
        rest = rest;
        index = suc (i + count kids);
        end = end;
        part = after_node p.whole i end k kids rest s;
        further = omega arith;
        more_are = tails q (at p.whole i) more r e;
        whole = refl;
        later = b;
        same = ap (λ ts. found ++ cond (is_counted introspection (at p.whole i))
            (items_of number n seen (located d (at p.whole i))
            ++ (items_below introspection d p.whole number (inside n (at p.whole i)) (suc i) [] ts
            ++ items_below introspection d p.whole number n (suc (i + count kids)) (seen_after seen (at p.whole i))
            rest))
            (items_below introspection d p.whole number n (suc (i + count kids)) seen rest)) its_kids
            ∙ h;
      })

  regroup_items : (xs ys zs us : List Item) → ((xs ++ ys) ++ zs) ++ us ≡ xs ++ (ys ++ (zs ++ us))
  regroup_items xs ys zs us = simp append_assoc

  module _ (all found : List Item) (names : Entries (Unit {0})) (q : Place) (more left : List Place)
      (l : IsLeft introspection d p number n all found names left)
      (e : left ≡ q ∷ more) where
    next : Next all found l.seen q more
    next = next_of all found l.seen q more l.index l.end l.rest l.part l.further (sym e ∙ l.left_are) l.same

    pub next_whole : q.whole ≡ p.whole
    next_whole = next.whole

    pub next_later : p.index < q.index
    next_later = next.later

    pub left_on : (one two : List Item) (after : Entries (Unit {0})) → is_counted introspection q ≡ true
        → ((seen : List Name) → AreNames names seen → Adds number n (located d q) seen found one after)
        → two ≡ one ++ items_inside introspection number (inside n q) (located d q)
        → IsLeft introspection d p number n all two after more
    left_on one two after counts adds two_is =
        let x = next in
        let a = adds l.seen l.names_are in
        let own = items_of number n l.seen (located d q) in
        let below = items_below introspection d p.whole number (inside n q) (suc q.index) [] (tree_kids (tree_at q)) in
        let others = items_below introspection d p.whole number n x.index (seen_after l.seen q) x.rest in
        let together : two ≡ (found ++ own) ++ below =
        two_is
        ∙ ap (λ w. one ++ items_below introspection d w number (inside n q) (suc q.index) [] (tree_kids (tree_at q)))
        x.whole
        ∙ ap (λ ys. ys ++ below) a.items_are in
        record {
          rest = x.rest;
          index = x.index;
          end = x.end;
          seen = seen_after l.seen q;
          part = x.part;
          further = x.further;
          left_are = x.more_are;
          names_are = a.names_are;
          same = ap (λ ys. ys ++ others) together ∙ regroup_items found own below others
              ∙ ap (λ b. found ++ cond b (own ++ (below ++ others))
              (items_below introspection d p.whole number n x.index l.seen x.rest)) (sym counts)
              ∙ x.same;
        }

    -- a child that does not count
    pub left_past : is_counted introspection q ≡ false → IsLeft introspection d p number n all found names more
    left_past counts =
        let x = next in
        record {
          rest = x.rest;
          index = x.index;
          end = x.end;
          seen = l.seen;
          part = x.part;
          further = x.further;
          left_are = x.more_are;
          names_are = l.names_are;
          same = ap (λ b. found ++ cond b (counted q x.index l.seen x.rest)
              (items_below introspection d p.whole number n x.index l.seen x.rest)) (sym counts)
              ∙ x.same;
        }

  no_nodes : (i end : ℕ) (seen : List Name) (rest : Forest) → [] ≡ nodes_from p.whole i rest
      → items_below introspection d p.whole number n i seen rest ≡ []
  no_nodes i end seen none e = refl
  no_nodes i end seen (leaf k t rest) e = no_nodes (suc i) end seen rest e
  no_nodes i end seen (node k kids rest) e =
      absurd (none_more (at p.whole i) (nodes_from p.whole (suc (i + count kids)) rest) (sym e))

  pub left_none : (all found : List Item) (names : Entries (Unit {0})) (left : List Place)
      → IsLeft introspection d p number n all found names left → left ≡ [] → found ≡ all
  left_none all found names left l e =
      sym (append-nil found) ∙ ap (λ xs. found ++ xs) (sym (no_nodes l.index l.end l.seen l.rest (sym e ∙ l.left_are)))
      ∙ l.same

-- one field
pub adds_field : (number : Option Name → ℕ) (n : ℕ) (s : Located) (seen : List Name) (old new : List Item)
    (names : Entries (Unit {0})) (name : Option Name) (b : Bool)
    → is_kind FIELD (kind_at s.place) ≡ true → name ≡ response_name s.place → IsNoted name seen names b
    → new ≡ old ++ field_items n b
    → Adds number n s seen old new names
adds_field number n s seen old new names name b k e r h = record {
  items_are = h ∙ ap (λ x. old ++ field_items n x) (r.new_is ∙ ap (is_new seen) e)
      ∙ ap (λ x. old ++ cond x (field_items n (is_new seen (response_name s.place))) (other_items number n s)) (sym k);
  names_are = λ t. r.names_are t ∙ ap (λ m. is_among (with_name m seen) t) e
      ∙ ap (λ x. is_among (cond x (with_name (response_name s.place) seen) seen) t) (sym k);
}

pub inside-le : (n : ℕ) (p : Place) → inside n p ≤ n + 1
inside-le n p = elim (is_kind FIELD (kind_at p)) as (λ b. cond b (n + 1) n ≤ n + 1)
    [ true ↦ omega arith | false ↦ omega arith ]
