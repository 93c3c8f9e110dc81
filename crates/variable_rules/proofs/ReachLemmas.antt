-- The definitions that an operation reaches, as they are found and in order.
use Rattle.std.proofs.Common.{◌≡◌, ◌≢◌, ◌⊎◌, ℕ, zero, suc, ◌<◌, ◌≤◌, List, [], ◌∷◌, length, get_or, eqb, true}
use Rattle.std.proofs.Common.{arith, refl, sym, subst, ap, ◌∙◌, inl, inr, ⊎_elim}
use Rattle.std.proofs.lemmas.Bool.Decides.{Decides-eqb, nat_tests}
use Rattle.std.proofs.lemmas.List.Elements.{Contains-get_or}
use Rattle.std.proofs.lemmas.List.Kept.{AllPairs-filter}
use Rattle.std.proofs.lemmas.List.Sorted.{Contains-permutation, IsPermutation-cons, IsPermutation-remove}
use Rattle.std.proofs.lemmas.List.Sorted.{IsPermutation-reverse, IsPermutation-sym, IsPermutation-trans}
use Rattle.std.proofs.lemmas.Map.Keys.{IsDistinct-IsPermutation}
use Rattle.std.proofs.lemmas.Map.Made.{AllPairs-from_IsDistinct, IsDistinct-from_AllPairs}
use Rattle.std.specs.List.{All, AllPairs, Contains, filter, range_with_len, remove}
use Rattle.std.specs.List.Sorted.{IsNonDecreasingBy, IsPermutation}
use Rattle.directed_graph.proofs.ReachLemmas.{has_decides}
use Rattle.directed_graph.specs.Graph.{Graph}
use Rattle.directed_graph.specs.Marks.{AreDistinct}
use Rattle.directed_graph.specs.Reach.{has_vertex, reaches as graph_reaches}
use Rattle.validation_names.proofs.Lists.{filter_has, in_filter, in_range, range_has}
use Rattle.validation_rules.proofs.ApartLemmas.{numbers_rise}
use Rattle.validation_rules.proofs.PairLemmas.{first_pairs, later_pairs, range_rises}
use Rattle.validation_rules.proofs.SpreadLemmas.{same_reach}
use Rattle.validation_rules.specs.Graphs.{IsSpreadGraph}
use Rattle.validation_rules.specs.Parts.{Parts, numbers, reached, reaches}

flips : (x y : ℕ) → eqb x y ≡ eqb y x
flips x y = grind (arith, nat_tests)

-- numbers that differ do so in another order
differ_permuted : (xs ys : List ℕ) → IsPermutation xs ys → AllPairs (λ x y. x ≢ y) xs → AllPairs (λ x y. x ≢ y) ys
differ_permuted xs ys same differ =
    AllPairs-from_IsDistinct Decides-eqb ys
    (IsDistinct-IsPermutation eqb flips xs ys same (IsDistinct-from_AllPairs Decides-eqb xs differ))

-- ---- two lists that rise and have the same numbers are one
abbrev Rises : List ℕ → Type 0
Rises xs = AllPairs (λ x y. x < y) xs

first_or_later : (y x : ℕ) (ys : List ℕ) → Contains (y ∷ ys) x → (y ≡ x) ⊎ Contains ys x
first_or_later y x ys (zero, below, is) = inl is
first_or_later y x ys (suc k, below, is) = inr (k, omega arith, is)

later : (y x : ℕ) (ys : List ℕ) → Contains ys x → Contains (y ∷ ys) x
later y x ys (k, below, is) = (suc k, omega arith, is)

-- the first number is no greater than any
no_greater : (x y : ℕ) (ys : List ℕ) → Rises (y ∷ ys) → Contains (y ∷ ys) x → y ≤ x
no_greater x y ys rises there =
    ⊎_elim
    (λ (e : y ≡ x). omega arith)
    (λ (at : Contains ys x). let l : y < x = first_pairs (λ a b. a < b) y ys rises x at in omega arith)
    (first_or_later y x ys there)

rest_in : (x y : ℕ) (xs ys : List ℕ) → x ≡ y → Rises (x ∷ xs) → ((k : ℕ) → Contains (x ∷ xs) k → Contains (y ∷ ys) k)
    → (k : ℕ) → Contains xs k
    → Contains ys k
rest_in x y xs ys same rises all k there =
    let l : x < k = first_pairs (λ a b. a < b) x xs rises k there in
    ⊎_elim
    (λ (e : y ≡ k). absurd (omega arith))
    (λ (at : Contains ys k). at)
    (first_or_later y k ys (all k (later x k xs there)))

pub same_rising :
    (xs ys : List ℕ) → Rises xs → Rises ys → ((k : ℕ) → Contains xs k → Contains ys k)
    → ((k : ℕ) → Contains ys k → Contains xs k) → xs ≡ ys
same_rising [] [] first second to from = refl
same_rising [] (y ∷ ys) first second to from =
    absurd (let at = from y (0, omega arith, refl) in let l = at.1 in omega arith)
same_rising (x ∷ xs) [] first second to from =
    absurd (let at = to x (0, omega arith, refl) in let l = at.1 in omega arith)
same_rising (x ∷ xs) (y ∷ ys) first second to from =
    let low : y ≤ x = no_greater x y ys second (to x (0, omega arith, refl)) in
    let high : x ≤ y = no_greater y x xs first (from y (0, omega arith, refl)) in
    let same : x ≡ y = omega arith in
    let rest : xs ≡ ys =
    same_rising xs ys (later_pairs (λ a b. a < b) x xs first) (later_pairs (λ a b. a < b) y ys second)
    (rest_in x y xs ys same first to)
    (rest_in y x ys xs (sym same) second from) in
    ap (λ k. k ∷ xs) same ∙ ap (λ zs. y ∷ zs) rest

-- ---- two lists that have the same numbers, each once
pub same_elements :
    (xs ys : List ℕ) → AllPairs (λ x y. x ≢ y) xs → AllPairs (λ x y. x ≢ y) ys
    → ((k : ℕ) → Contains xs k → Contains ys k)
    → ((k : ℕ) → Contains ys k → Contains xs k) → IsPermutation xs ys
same_elements [] [] first second to from = IsPermutation-reverse []
same_elements [] (y ∷ ys) first second to from =
    absurd (let at = from y (0, omega arith, refl) in let l = at.1 in omega arith)
same_elements (x ∷ xs) ys first second to from =
    let (k, below, is) = to x (0, omega arith, refl) in
    let rest = remove ys k in
    let taken : IsPermutation ys (x ∷ rest) = IsPermutation-remove ys k x below (sym is) in
    let differ : AllPairs (λ a b. a ≢ b) (x ∷ rest) = differ_permuted ys (x ∷ rest) taken second in
    IsPermutation-trans (x ∷ xs) (x ∷ rest) ys
    (IsPermutation-cons x xs rest
    (same_elements xs rest (later_pairs (λ a b. a ≢ b) x xs first) (later_pairs (λ a b. a ≢ b) x rest differ)
    (λ z there.
    ⊎_elim
    (λ (e : x ≡ z). absurd (first_pairs (λ a b. a ≢ b) x xs first z there e))
    (λ (at : Contains rest z). at)
    (first_or_later x z rest (Contains-permutation ys (x ∷ rest) z taken (to z (later x z xs there)))))
    (λ z there.
    ⊎_elim
    (λ (e : x ≡ z). absurd (first_pairs (λ a b. a ≢ b) x rest differ z there e))
    (λ (at : Contains xs z). at)
    (first_or_later x z xs
    (from z (Contains-permutation (x ∷ rest) ys z (IsPermutation-sym ys (x ∷ rest) taken) (later x z rest there)))))))
    (IsPermutation-sym ys (x ∷ rest) taken)

-- ---- those that are found
-- the vertices that edges lead to from one of them, in order
abbrev pub reached_in : Graph → ℕ → List ℕ
reached_in graph from = filter (graph_reaches graph (from ∷ [])) (range_with_len 0 (length graph))

pub found_are :
    (graph : Graph) (from : ℕ) (found : List ℕ) → ((k : ℕ) → has_vertex found k ≡ graph_reaches graph (from ∷ []) k)
    → All (λ k. k < length graph) found → AreDistinct found → IsPermutation found (reached_in graph from)
found_are graph from found are inside distinct =
    same_elements found (reached_in graph from) distinct differ
    (λ k there.
    let has : has_vertex found k ≡ true = (has_decides found k).1 there in
    filter_has (graph_reaches graph (from ∷ [])) (range_with_len 0 (length graph)) k
    (subst (λ n. Contains (range_with_len 0 (length graph)) n) (omega arith)
    (range_has 0 (length graph) k (below k there))) (sym (are k) ∙ has))
    (λ k there.
    (has_decides found k).0
    (are k ∙ (in_filter (graph_reaches graph (from ∷ [])) (range_with_len 0 (length graph)) k there).1))
  where
    below : (k : ℕ) → Contains found k → k < length graph
    below k (i, less, is) = let l = inside i k less in rw is at l

    differ : AllPairs (λ x y. x ≢ y) (reached_in graph from)
    differ i j d less under same =
        let l = AllPairs-filter (λ x y. x < y) (graph_reaches graph (from ∷ [])) (range_with_len 0 (length graph))
        (range_rises 0 (length graph))
        i j d less under in
        omega arith

-- ---- those that an operation reaches
pub same_reached : (ds : List Parts) (graph : Graph) (operation : ℕ) → IsSpreadGraph ds graph
    → reached_in graph operation ≡ reached ds operation
same_reached ds graph operation spreads =
    let tests : graph_reaches graph (operation ∷ []) ≡ reaches ds (operation ∷ []) =
    λ i number. same_reach ds graph (operation ∷ []) number spreads i in
    ap (λ test. filter test (range_with_len 0 (length graph))) tests
    ∙ ap (λ n. filter (reaches ds (operation ∷ [])) (range_with_len 0 n)) spreads.as_many

module _ (ds : List Parts) (operation : ℕ) where
  pub reached_inside : All (λ number. number < length ds) (reached ds operation)
  reached_inside k d below =
      let at = in_filter (reaches ds (operation ∷ [])) (numbers ds) (get_or (reached ds operation) k d)
      (Contains-get_or (reached ds operation) k d below) in
      let l = in_range 0 (length ds) (get_or (reached ds operation) k d) at.0 in
      omega arith

  reached_rises : Rises (reached ds operation)
  reached_rises = AllPairs-filter (λ x y. x < y) (reaches ds (operation ∷ [])) (numbers ds) (numbers_rise ds)

  -- the same numbers, in order
  pub in_order_are : (found sorted : List ℕ) → IsPermutation found (reached ds operation) → IsPermutation found sorted
      → IsNonDecreasingBy (λ k. k) sorted
      → sorted ≡ reached ds operation
  in_order_are found sorted are same in_order =
      same_rising sorted (reached ds operation) rises reached_rises
      (λ k there. Contains-permutation sorted (reached ds operation) k both there)
      (λ k there. Contains-permutation (reached ds operation) sorted k
      (IsPermutation-sym sorted (reached ds operation) both) there)
    where
      both : IsPermutation sorted (reached ds operation)
      both = IsPermutation-trans sorted found (reached ds operation) (IsPermutation-sym found sorted same) are

      differ : AllPairs (λ x y. x ≢ y) (reached ds operation)
      differ i j d less under e = let l = reached_rises i j d less under in omega arith

      rises : Rises sorted
      rises i j d less under =
          let le = in_order i j d (omega arith) under in
          let ne = differ_permuted (reached ds operation) sorted (IsPermutation-sym sorted (reached ds operation) both)
          differ i j d less under in
          omega arith
