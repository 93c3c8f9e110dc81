-- Where records of a table begin, in order, and which leaves are at an offset for it.
use Rattle.std.proofs.Common.{◌≡◌, ℕ, zero, suc, ◌+◌, ◌-◌, ◌<◌, ◌≤◌, List, [], ◌∷◌, ◌++◌, length, drop, get_or, sym, ap}
use Rattle.std.proofs.Common.{◌∙◌, subst, refl, arith, cond, Bool, true, false}
use Rattle.std.proofs.Math.Seq.{drop-cons}
use Rattle.std.proofs.lemmas.Bool.{false_from_ne_true, and_parts, leb-true, ltb-true, not-true}
use Rattle.std.proofs.lemmas.List.Elements.{filter-append}
use Rattle.std.specs.List.{filter}
use Rattle.std.specs.Prelude.{nat_le, nat_lt}
use Rattle.document_grammar.specs.Forests.{Forest, Tree, Leaf, Node, count}
use Rattle.apollo_tree.proofs.Parts.{spot, within}
use Rattle.apollo_tree.proofs.Places.{size-is, start-is, end-is}
use Rattle.apollo_tree.specs.AtOffset.{is_at_offset}
use Rattle.apollo_tree.specs.Below.{places_from, is_leaf_place}
use Rattle.apollo_tree.specs.Blank.{none_there}
use Rattle.apollo_tree.specs.Children.{is_node_place}
use Rattle.apollo_tree.specs.Order.{Place, tree_at, tree_kids, is_node, range_at}
use Rattle.apollo_tree.specs.Records.{forest, start_from}
use Rattle.apollo_tree.specs.Table.{IsTable}
use Rattle.apollo_tree.specs.declared.record.Record.{Record}

-- ---- the starts of records never fall
module _ (rs : List Record) (s : List ℕ) (t : IsTable rs s) where
  -- an element without children ends where the next begins
  pub next-start : (i : ℕ) → suc i < length rs → count (tree_kids (tree_at (spot (forest s rs) i))) ≡ 0
      → (range_at (spot (forest s rs) i)).1 ≡ (range_at (spot (forest s rs) (suc i))).0
  next-start i h e =
      let size : 1 ≡ (get_or rs i none_there).size = omega (arith, size-is rs s t i (omega arith) none_there) in
      let at : i + 1 ≡ suc i = omega arith in
      sym (end-is rs s t i (omega arith) none_there 1 size) ∙ ap (λ n. start_from (length s) (drop n rs)) at
      ∙ ap (start_from (length s)) (drop-cons rs (suc i) none_there h) ∙ start-is rs s t (suc i) h none_there

  rises-once : (i n : ℕ) → suc i < length rs → count (tree_kids (tree_at (spot (forest s rs) i))) ≡ n
      → (range_at (spot (forest s rs) i)).0 ≤ (range_at (spot (forest s rs) (suc i))).0
  rises-once i zero h e = omega (arith, next-start i h e)
  rises-once i (suc n) h e =
      let same : suc i + 0 ≡ suc i = omega arith in
      subst (λ j. (range_at (spot (forest s rs) i)).0 ≤ (range_at (spot (forest s rs) j)).0) same
      (within rs s t i (omega arith) 0 (omega arith)).0

  rises-by : (i d : ℕ) → i + d < length rs
      → (range_at (spot (forest s rs) i)).0 ≤ (range_at (spot (forest s rs) (i + d))).0
  rises-by i zero h =
      let same : i ≡ i + 0 = omega arith in
      subst (λ j. (range_at (spot (forest s rs) i)).0 ≤ (range_at (spot (forest s rs) j)).0) same (omega arith)
  rises-by i (suc d) h =
      let same : suc (i + d) ≡ i + suc d = omega arith in
      subst (λ j. (range_at (spot (forest s rs) i)).0 ≤ (range_at (spot (forest s rs) j)).0) same
      (omega (arith, rises-by i d (omega arith), rises-once (i + d) _ (omega arith) refl))

  pub rises : (i j : ℕ) → i ≤ j → j < length rs
      → (range_at (spot (forest s rs) i)).0 ≤ (range_at (spot (forest s rs) j)).0
  rises i j le h =
      let same : i + (j - i) ≡ j = omega arith in
      subst (λ k. (range_at (spot (forest s rs) i)).0 ≤ (range_at (spot (forest s rs) k)).0) same
      (rises-by i (j - i) (omega arith))

-- ---- leaves at an offset
record IsAtOffset (offset : ℕ) (p : Place) : Type 0 where
  leaf : is_node_place p ≡ false
  some : (range_at p).0 < (range_at p).1
  begins : (range_at p).0 ≤ offset
  ends : offset ≤ (range_at p).1

at-offset : (offset : ℕ) (p : Place) → is_at_offset offset p ≡ true → IsAtOffset offset p
at-offset offset p h =
    let r = range_at p in
    let both = and_parts (is_leaf_place p) _ h in
    let parts = and_parts (nat_lt r.0 r.1) _ both.1 in
    let ends = and_parts (nat_le r.0 offset) _ parts.1 in
    record {
      leaf = not-true (is_node_place p) both.0;
      some = ltb-true r.0 r.1 parts.0;
      begins = leb-true r.0 offset ends.0;
      ends = leb-true offset r.1 ends.1;
    }

-- an element that begins after the offset is not one of them
pub no-later : (offset : ℕ) (p : Place) → offset < (range_at p).0 → is_at_offset offset p ≡ false
no-later offset p lt = false_from_ne_true (is_at_offset offset p)
    (λ h. let a = at-offset offset p h in absurd (omega (arith, a.begins)))

leaf-kids : (t : Tree) → is_node t ≡ false → count (tree_kids t) ≡ 0
leaf-kids (Leaf k s) h = refl
leaf-kids (Node k kids) h = absurd cc

-- nor is one that is followed by another before the offset, or at the same place
pub no-earlier : (rs : List Record) (s : List ℕ) → IsTable rs s → (i offset : ℕ) → suc i < length rs
    → ((range_at (spot (forest s rs) i)).0 < (range_at (spot (forest s rs) (suc i))).0
    → (range_at (spot (forest s rs) (suc i))).0 < offset)
    → is_at_offset offset (spot (forest s rs) i) ≡ false
no-earlier rs s t i offset h early =
    let p = spot (forest s rs) i in
    false_from_ne_true (is_at_offset offset p)
    (λ e. let a = at-offset offset p e in
    let next = next-start rs s t i h (leaf-kids (tree_at p) a.leaf) in
    let some : (range_at p).0 < (range_at (spot (forest s rs) (suc i))).0 = omega (arith, a.some) in
    absurd (omega (arith, early some, a.ends)))

-- ---- parts of a document order
places-split : (whole : Forest) (i m n : ℕ)
    → places_from whole i (m + n) ≡ places_from whole i m ++ places_from whole (i + m) n
places-split whole i zero n = let a : 0 + n ≡ n = omega arith in let b : i ≡ i + 0 = omega arith in
    ap (places_from whole i) a ∙ ap (λ j. places_from whole j n) b
places-split whole i (suc m) n =
    let a : suc m + n ≡ suc (m + n) = omega arith in
    let b : suc i + m ≡ i + suc m = omega arith in
    ap (places_from whole i) a ∙ ap (λ ps. spot whole i ∷ ps)
    (places-split whole (suc i) m n ∙ ap (λ j. places_from whole (suc i) m ++ places_from whole j n) b)

pub filter-split : (m : Place → Bool) (whole : Forest) (from at to : ℕ) → from ≤ at → at ≤ to
    → filter m (places_from whole from (to - from)) ≡ filter m (places_from whole from (at - from))
    ++ filter m (places_from whole at (to - at))
filter-split m whole from at to a b =
    let n : to - from ≡ (at - from) + (to - at) = omega arith in
    let i : from + (at - from) ≡ at = omega arith in
    ap (λ k. filter m (places_from whole from k)) n ∙ ap (filter m) (places-split whole from (at - from) (to - at))
    ∙ filter-append m (places_from whole from (at - from)) _
    ∙ ap (λ j. filter m (places_from whole from (at - from)) ++ filter m (places_from whole j (to - at))) i

filter-none : (m : Place → Bool) (whole : Forest) (i n : ℕ) → ((k : ℕ) → k < n → m (spot whole (i + k)) ≡ false)
    → filter m (places_from whole i n) ≡ []
filter-none m whole i zero h = refl
filter-none m whole i (suc n) h =
    let here : i + 0 ≡ i = omega arith in
    ap (λ c. cond c (spot whole i ∷ filter m (places_from whole (suc i) n)) (filter m (places_from whole (suc i) n)))
    (ap (λ j. m (spot whole j)) (sym here) ∙ h 0 (omega arith))
    ∙ filter-none m whole (suc i) n
    (λ k b. let e : suc i + k ≡ i + suc k = omega arith in ap (λ j. m (spot whole j)) e ∙ h (suc k) (omega arith))

pub no-places : (m : Place → Bool) (whole : Forest) (from to : ℕ)
    → ((k : ℕ) → from ≤ k → k < to → m (spot whole k) ≡ false)
    → filter m (places_from whole from (to - from)) ≡ []
no-places m whole from to h = filter-none m whole from (to - from) (λ k b. h (from + k) (omega arith) (omega arith))

-- all but the last are passed over
pub last-place : (m : Place → Bool) (whole : Forest) (from to : ℕ) → from < to
    → ((k : ℕ) → from ≤ k → k + 1 < to → m (spot whole k) ≡ false)
    → filter m (places_from whole from (to - from)) ≡ filter m (spot whole (to - 1) ∷ [])
last-place m whole from to lt h =
    let one : to - (to - 1) ≡ 1 = omega arith in
    filter-split m whole from (to - 1) to (omega arith) (omega arith)
    ∙ ap (λ ps. ps ++ filter m (places_from whole (to - 1) (to - (to - 1))))
    (no-places m whole from (to - 1) (λ k a b. h k a (omega arith)))
    ∙ ap (λ n. filter m (places_from whole (to - 1) n)) one
