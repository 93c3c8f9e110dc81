-- The elements of a tree in twelve bytes.
use Rattle.std.proofs.Common.{◌≡◌, ◌∙◌, ◌+◌, ◌-◌, ◌++◌, ℕ, zero, suc, ◌<◌, ◌≤◌, ◌^◌, List}
use Rattle.std.proofs.Common.{[], ◌∷◌, length, map, min, take, drop, set, get_or, ap, subst, refl, sym, ⊎_elim, arith}
use Rattle.std.proofs.lemmas.Bool.{cases_lt}
use Rattle.std.proofs.lemmas.List.{drop-map, get_or-map, length-append, length-map, same_lists, take-map, take_rest}
use Rattle.std.proofs.lemmas.List.Elements.{All-from_get_or, All-get_or}
use Rattle.std.specs.List.{All}
use Rattle.std.specs.Prelude.{unwrap_or}
use Rattle.apollo_tree.proofs.Filling.{filled-by-one-more, filled-in-two}
use Rattle.apollo_tree.proofs.Parents.{no-index, some-parent}
use Rattle.apollo_tree.proofs.Places.{cut-of, kind-is, length-table, node_is, size-is, start-is}
use Rattle.apollo_tree.proofs.Spans.{children-span}
use Rattle.apollo_tree.proofs.Widening.{packed-there}
use Rattle.apollo_tree.specs.Blank.{none_there}
use Rattle.apollo_tree.specs.Compact.{compact, compact_elements, compact_from, compact_record, to_parent}
use Rattle.apollo_tree.specs.Filled.{filled}
use Rattle.apollo_tree.specs.Order.{Element, element, nowhere, order, tree_text}
use Rattle.apollo_tree.specs.Records.{forest}
use Rattle.apollo_tree.specs.Table.{IsTable}
use Rattle.apollo_tree.specs.Widened.{IsSmall}
use Rattle.apollo_tree.specs.declared.compact.CompactElement.{CompactElement}
use Rattle.apollo_tree.specs.declared.record.Record.{Record}

-- a record's distance to its parent
record Distance (i up : ℕ) (e : Element) : Type 0 where
  inside : up ≤ i
  same : up ≡ to_parent i e

module _ (rs : List Record) (s : List ℕ) (t : IsTable rs s) (i : ℕ) (h : i < length rs) where
  abbrev pub own : Record
  own = get_or rs i none_there

  abbrev pub there : Element
  there = element (record { whole = forest s rs; index = i })

  distance : Distance i own.to_parent there
  distance =
      ⊎_elim
      (λ (some : 0 < own.to_parent).
      let p = some-parent rs s t i h own.to_parent refl some in
      record { inside = p.inside; same = omega (arith, p.inside, ap (λ up. i - unwrap_or up i) p.index) })
      (λ (none : own.to_parent ≤ 0).
      let zero_is : own.to_parent ≡ 0 = omega arith in
      record {
        inside = omega arith;
        same = omega (arith, ap (λ up. i - unwrap_or up i) (no-index rs s t i h own.to_parent refl zero_is));
      })
      (cases_lt 0 own.to_parent)

  -- its numbers fit where the tree is small
  fits : length rs < 2 ^ 28 → length s < 2 ^ 31 → IsSmall own
  fits few short =
      let c = cut-of rs s t i h in
      record {
        start = omega (
          arith,
          start-is rs s t i h none_there,
          c.begins,
          ap length c.words,
          ap length t.words,
          length-append c.before (tree_text there.tree ++ c.after),
        );
        size = omega (arith, (children-span rs s t i h own.size refl).inside);
        to_parent = omega (arith, distance.inside);
      }

  compact-is : compact_record own ≡ compact i there
  compact-is =
      cc (
        kind-is rs s t i h none_there,
        node_is rs s t i h none_there,
        start-is rs s t i h none_there,
        size-is rs s t i h none_there,
        distance.same,
      )

-- ---- all elements

length-compact : (index : ℕ) (es : List Element) → length (compact_from index es) ≡ length es
length-compact index [] = refl
length-compact index (e ∷ es) = ap suc (length-compact (suc index) es)

compact-there : (index i : ℕ) (es : List Element) (d : CompactElement) → i < length es
    → get_or (compact_from index es) i d ≡ compact (index + i) (get_or es i nowhere)
compact-there index i [] d l = absurd (omega arith)
compact-there index zero (e ∷ es) d l = let same : index ≡ index + 0 = omega arith in ap (λ (n : ℕ). compact n e) same
compact-there index (suc i) (e ∷ es) d l =
    let same : suc index + i ≡ index + suc i = omega arith in
    compact-there (suc index) i es d (omega arith) ∙ ap (λ (n : ℕ). compact n (get_or es i nowhere)) same

module _ (rs : List Record) (s : List ℕ) (t : IsTable rs s) where
  pub all-fit : length rs < 2 ^ 28 → length s < 2 ^ 31 → All IsSmall rs
  all-fit few short = All-from_get_or IsSmall rs none_there (λ i h. fits rs s t i h few short)

  one-compact : (i : ℕ) (d : CompactElement) → i < length (map compact_record rs)
      → get_or (map compact_record rs) i d ≡ get_or (compact_elements (forest s rs)) i d
  one-compact i d h =
      let inside : i < length rs = omega (arith, h, length-map rs compact_record) in
      let here : Element = get_or (order (forest s rs)) i nowhere in
      let same : i ≡ 0 + i = omega arith in
      get_or-map compact_record rs i none_there d inside ∙ compact-is rs s t i inside
      ∙ ap (λ (n : ℕ). compact n here) same
      ∙ sym (compact-there 0 i (order (forest s rs)) d (omega (arith, inside, length-table rs s t)))

  pub compacts-are : map compact_record rs ≡ compact_elements (forest s rs)
  compacts-are =
      same_lists (map compact_record rs) (compact_elements (forest s rs))
      (omega (arith, length-map rs compact_record, length-table rs s t, length-compact 0 (order (forest s rs))))
      one-compact

-- one more record is written
module _ {P : Type 0} (f : P → Record) (ps : List P) (i : ℕ) (p : P) (is : p ≡ get_or ps i p)
    (inside : i < length ps) where
  abbrev pub all : List Record
  all = map f ps

  there-is : f p ≡ get_or all i none_there
  there-is = packed-there f all ps i refl p is inside

  in-all : i < length all
  in-all = omega (arith, inside, length-map ps f)

  pub next-fits : All IsSmall all → IsSmall (f p)
  next-fits each = subst IsSmall (sym there-is) (All-get_or IsSmall all i none_there in-all each)

  pub next-compact : (buffer rows : List CompactElement) (row : CompactElement)
      → rows ≡ filled buffer (take i (map compact_record all))
      → row ≡ compact_record (f p) → i < length buffer
      → set rows i row ≡ filled buffer (take (i + 1) (map compact_record all))
  next-compact buffer rows row so_far e room =
      let items : List CompactElement = map compact_record all in
      let item : get_or items i row ≡ row =
      get_or-map compact_record all i none_there row in-all ∙ sym (e ∙ ap compact_record there-is) in
      ap (λ (xs : List CompactElement). set xs i row) so_far
      ∙ ap (λ (x : CompactElement). set (filled buffer (take i items)) i x) (sym item)
      ∙ filled-by-one-more buffer items i (i + 1) row refl room (omega (arith, in-all, length-map all compact_record))

-- records that are written in two parts
pub in-two : {P : Type 0} (f : P → Record) (ps : List P) (rows : List CompactElement) (half written : ℕ)
    → written ≡ min half (length rows)
    → filled (take written rows) (map compact_record (map f (take half ps)))
    ++ filled (drop written rows) (map compact_record (map f (take (length ps - half) (drop half ps))))
    ≡ filled rows (map compact_record (map f ps))
in-two f ps rows half written e =
    let items : List CompactElement = map compact_record (map f ps) in
    let later : List CompactElement = map compact_record (map f (take (length ps - half) (drop half ps))) in
    let front = sym (take-map compact_record half (map f ps) ∙ ap (map compact_record) (take-map f half ps)) in
    let rest = sym (drop-map compact_record half (map f ps) ∙ ap (map compact_record) (drop-map f half ps)) in
    let back : later ≡ drop half items = ap (λ qs. map compact_record (map f qs)) (take_rest ps half) ∙ rest in
    ap (λ (xs : List CompactElement). filled (take written rows) xs ++ filled (drop written rows) later) front
    ∙ ap (λ (xs : List CompactElement). filled (take written rows) (take half items) ++ filled (drop written rows) xs)
    back
    ∙ filled-in-two rows items half written e
