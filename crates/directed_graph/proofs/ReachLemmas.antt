-- The test decides what is reached: as many steps as there are vertices lead to all of it.
use Rattle.std.proofs.Common.{◌≡◌, ◌⊎◌, ℕ, zero, suc, ◌+◌, ◌<◌, ◌≤◌, List, [], ◌∷◌, ◌++◌, length, get_or, eqb, Bool}
use Rattle.std.proofs.Common.{true, false, ◌||◌, arith, refl, sym, inl, inr, ⊎_elim, eqb-true, eq-eqb}
use Rattle.std.proofs.lemmas.List.Elements.{Contains-append_cases, Contains-append_left, Contains-append_right}
use Rattle.std.proofs.lemmas.List.Elements.{Contains-get_or}
use Rattle.std.specs.Bool.{Decides}
use Rattle.std.specs.List.{All, Contains, flat_map, list_any}
use Rattle.directed_graph.proofs.Below.{no_more_below}
use Rattle.directed_graph.specs.Graph.{Graph, HasEdge, IsClosed, Reached, next, row_of, start}
use Rattle.directed_graph.specs.Reach.{has_vertex, reaches, within}

-- ---- whether a list has a vertex
later : {A : Type 0} (x y : A) (xs : List A) → Contains xs y → Contains (x ∷ xs) y
later x y xs (k, below, is) = (suc k, omega arith, is)

either : (a b : Bool) → (a || b) ≡ true → (a ≡ true) ⊎ (b ≡ true)
either true b is = inl refl
either false b is = inr is

or_last : (a : Bool) → (a || true) ≡ true
or_last true = refl
or_last false = refl

has_then : (vertices : List ℕ) (vertex : ℕ) → has_vertex vertices vertex ≡ true → Contains vertices vertex
has_then [] vertex is = absurd (cc)
has_then (v ∷ vs) vertex is =
    ⊎_elim
    (λ (same : eqb v vertex ≡ true). (0, omega arith, eqb-true v vertex same))
    (λ (rest : has_vertex vs vertex ≡ true). later v vertex vs (has_then vs vertex rest))
    (either (eqb v vertex) (has_vertex vs vertex) is)

then_has : (vertices : List ℕ) (vertex : ℕ) → Contains vertices vertex → has_vertex vertices vertex ≡ true
then_has [] vertex (k, below, is) = absurd (omega arith)
then_has (v ∷ vs) vertex (zero, below, is) = rw (eq-eqb v vertex is) refl
then_has (v ∷ vs) vertex (suc k, below, is) = rw (then_has vs vertex (k, omega arith, is)) (or_last (eqb v vertex))

pub has_decides : (vertices : List ℕ) (vertex : ℕ) → Decides (has_vertex vertices vertex) (Contains vertices vertex)
has_decides vertices vertex = (has_then vertices vertex, then_has vertices vertex)

-- ---- what a row of each leads to
from_one : (row : ℕ → List ℕ) (vertices : List ℕ) (to : ℕ) → Contains (flat_map row vertices) to
    → (from : ℕ) × Contains vertices from × Contains (row from) to
from_one row [] to (k, below, is) = absurd (omega arith)
from_one row (v ∷ vs) to there =
    ⊎_elim
    (λ (now : Contains (row v) to). (v, (0, omega arith, refl), now))
    (λ (rest : Contains (flat_map row vs) to). let at = from_one row vs to rest in (at.0, later v at.0 vs at.1, at.2))
    (Contains-append_cases (row v) (flat_map row vs) to there)

to_all : (row : ℕ → List ℕ) (vertices : List ℕ) (from to : ℕ) → Contains vertices from → Contains (row from) to
    → Contains (flat_map row vertices) to
to_all row [] from to (k, below, is) edge = absurd (omega arith)
to_all row (v ∷ vs) from to (zero, below, is) edge =
    Contains-append_left (row v) (flat_map row vs) to (rw (← is) at edge)
to_all row (v ∷ vs) from to (suc k, below, is) edge =
    Contains-append_right (row v) (flat_map row vs) to (to_all row vs from to (k, omega arith, is) edge)

-- ---- steps

reached_within :
    (row : ℕ → List ℕ) (n : ℕ) (starts : List ℕ) (vertex : ℕ) → Contains (within row n starts) vertex
    → Reached (λ from to. Contains (row from) to) starts vertex
reached_within row zero starts vertex there = start vertex there
reached_within row (suc n) starts vertex there =
    ⊎_elim
    (λ (before : Contains (within row n starts) vertex). reached_within row n starts vertex before)
    (λ (added : Contains (flat_map row (within row n starts)) vertex).
    let at = from_one row (within row n starts) vertex added in
    next at.0 vertex (reached_within row n starts at.0 at.1) at.2)
    (Contains-append_cases (within row n starts) (flat_map row (within row n starts)) vertex there)

starts_within : (row : ℕ → List ℕ) (n : ℕ) (starts : List ℕ) (vertex : ℕ) → Contains starts vertex
    → Contains (within row n starts) vertex
starts_within row zero starts vertex there = there
starts_within row (suc n) starts vertex there =
    Contains-append_left (within row n starts) (flat_map row (within row n starts)) vertex
    (starts_within row n starts vertex there)

-- one step more leads to no other vertex
abbrev IsStill : (ℕ → List ℕ) → ℕ → List ℕ → Type 0
IsStill row n starts = (vertex : ℕ) → Contains (within row (suc n) starts) vertex
    → Contains (within row n starts) vertex

still_then : (row : ℕ → List ℕ) (n : ℕ) (starts : List ℕ) → IsStill row n starts → IsStill row (suc n) starts
still_then row n starts still vertex there =
    ⊎_elim
    (λ (before : Contains (within row (suc n) starts) vertex). before)
    (λ (added : Contains (flat_map row (within row (suc n) starts)) vertex).
    let at = from_one row (within row (suc n) starts) vertex added in
    Contains-append_right (within row n starts) (flat_map row (within row n starts)) vertex
    (to_all row (within row n starts) at.0 vertex (still at.0 at.1) at.2))
    (Contains-append_cases (within row (suc n) starts) (flat_map row (within row (suc n) starts)) vertex there)

-- all of some vertices are in a list, or one isn't
first_or_rest : (vertices : List ℕ) (o v : ℕ) (os : List ℕ) → Contains vertices o
    → ((w : ℕ) → Contains os w → Contains vertices w) → Contains (o ∷ os) v
    → Contains vertices v
first_or_rest vertices o v os first rest (zero, below, is) = rw (← is) first
first_or_rest vertices o v os first rest (suc k, below, is) = rest v (k, omega arith, is)

abbrev AllOrOne : List ℕ → List ℕ → Type 0
AllOrOne vertices others =
    ((v : ℕ) → Contains others v → Contains vertices v)
    ⊎ ((v : ℕ) × Contains others v × (has_vertex vertices v ≡ false))

by_first : (vertices : List ℕ) (o : ℕ) (os : List ℕ) (b : Bool) → has_vertex vertices o ≡ b → AllOrOne vertices os
    → AllOrOne vertices (o ∷ os)
by_first vertices o os false e rest = inr (o, (0, omega arith, refl), e)
by_first vertices o os true e rest =
    ⊎_elim
    (λ (all : (v : ℕ) → Contains os v → Contains vertices v). inl
    (λ v there. first_or_rest vertices o v os (has_then vertices o e) all there))
    (λ (one : (v : ℕ) × Contains os v × (has_vertex vertices v ≡ false)). inr (one.0, later o one.0 os one.1, one.2))
    rest

all_or_one : (vertices others : List ℕ) → AllOrOne vertices others
all_or_one vertices [] = inl (λ v (k, below, is). absurd (omega arith))
all_or_one vertices (o ∷ os) = by_first vertices o os (has_vertex vertices o) refl (all_or_one vertices os)

-- some vertices that are reached, none of them twice
record Apart (row : ℕ → List ℕ) (n : ℕ) (starts : List ℕ) : Type 0 where
  vertices : List ℕ
  as_many : length vertices ≡ suc n
  distinct : (i j : ℕ) → i < j → j < length vertices → ¬ (get_or vertices i 0 ≡ get_or vertices j 0)
  inside : (vertex : ℕ) → Contains vertices vertex → Contains (within row n starts) vertex

one_more : (row : ℕ → List ℕ) (n : ℕ) (starts : List ℕ) (v : ℕ) → Contains (within row (suc n) starts) v
    → has_vertex (within row n starts) v ≡ false
    → Apart row n starts → Apart row (suc n) starts
one_more row n starts v there new apart = record {
  vertices = v ∷ apart.vertices;
  as_many = let e = apart.as_many in omega arith;
  distinct = differ;
  inside = in_all;
}
  where
    differ : (i j : ℕ) → i < j → j < length (v ∷ apart.vertices)
        → ¬ (get_or (v ∷ apart.vertices) i 0 ≡ get_or (v ∷ apart.vertices) j 0)
    differ zero zero less below same = absurd (omega arith)
    differ zero (suc j) less below same =
        let has = then_has (within row n starts) v
        (rw (← same) at (apart.inside (get_or apart.vertices j 0)
        (Contains-get_or apart.vertices j 0 (omega arith)))) in
        absurd (cc)
    differ (suc i) zero less below same = absurd (omega arith)
    differ (suc i) (suc j) less below same = apart.distinct i j (omega arith) (omega arith) same

    in_all : (vertex : ℕ) → Contains (v ∷ apart.vertices) vertex → Contains (within row (suc n) starts) vertex
    in_all vertex (zero, below, is) = rw (← is) there
    in_all vertex (suc k, below, is) =
        Contains-append_left (within row n starts) (flat_map row (within row n starts)) vertex
        (apart.inside vertex (k, omega arith, is))

still_or_apart : (row : ℕ → List ℕ) (n : ℕ) (starts : List ℕ) → IsStill row n starts ⊎ Apart row n starts
still_or_apart row zero [] = inl (λ vertex there. there)
still_or_apart row zero (s ∷ ss) = inr (record {
  vertices = s ∷ [];
  as_many = refl;
  distinct = λ i j less below same. absurd (omega arith);
  inside = λ vertex there. only vertex there;
})
  where
    only : (vertex : ℕ) → Contains (s ∷ []) vertex → Contains (s ∷ ss) vertex
    only vertex (zero, below, is) = (0, omega arith, is)
    only vertex (suc k, below, is) = absurd (omega arith)
still_or_apart row (suc n) starts =
    ⊎_elim
    (λ (still : IsStill row n starts). inl (still_then row n starts still))
    (λ (apart : Apart row n starts).
    ⊎_elim
    (λ (all : (v : ℕ) → Contains (within row (suc n) starts) v → Contains (within row n starts) v). inl
    (still_then row n starts all))
    (λ (one : (v : ℕ) × Contains (within row (suc n) starts) v × (has_vertex (within row n starts) v ≡ false)).
    inr (one_more row n starts one.0 one.1 one.2 apart))
    (all_or_one (within row n starts) (within row (suc n) starts)))
    (still_or_apart row n starts)

-- ---- as many steps as there are vertices
inside : (graph : Graph) (starts : List ℕ) (vertex : ℕ) → IsClosed graph → All (λ v. v < length graph) starts
    → Reached (HasEdge graph) starts vertex
    → vertex < length graph
inside graph starts vertex closed below (start _ (k, less, is)) = rw is at (below k vertex less)
inside graph starts vertex closed below (next from _ was edge) = closed from vertex edge

still_at_last : (graph : Graph) (starts : List ℕ) → IsClosed graph → All (λ v. v < length graph) starts
    → IsStill (row_of graph) (length graph) starts
still_at_last graph starts closed below =
    ⊎_elim
    (λ (still : IsStill (row_of graph) (length graph) starts). still)
    (λ (apart : Apart (row_of graph) (length graph) starts).
    absurd
    (let e = apart.as_many in
    let le = no_more_below apart.vertices (length graph) apart.distinct
    (λ vertex there. inside graph starts vertex closed below
    (reached_within (row_of graph) (length graph) starts vertex (apart.inside vertex there))) in
    omega arith))
    (still_or_apart (row_of graph) (length graph) starts)

within_if_reached :
    (graph : Graph) (starts : List ℕ) (vertex : ℕ) → IsStill (row_of graph) (length graph) starts
    → Reached (HasEdge graph) starts vertex
    → Contains (within (row_of graph) (length graph) starts) vertex
within_if_reached graph starts vertex still (start _ there) =
    starts_within (row_of graph) (length graph) starts vertex there
within_if_reached graph starts vertex still (next from _ was edge) =
    let before = within_if_reached graph starts from still was in
    still vertex
    (Contains-append_right (within (row_of graph) (length graph) starts)
    (flat_map (row_of graph) (within (row_of graph) (length graph) starts)) vertex
    (to_all (row_of graph) (within (row_of graph) (length graph) starts) from vertex before edge))

pub reaches_decides :
    (graph : Graph) (starts : List ℕ) (vertex : ℕ) → IsClosed graph → All (λ v. v < length graph) starts
    → Decides (reaches graph starts vertex) (Reached (HasEdge graph) starts vertex)
reaches_decides graph starts vertex closed below = (
  (λ is. reached_within (row_of graph) (length graph) starts vertex
      (has_then (within (row_of graph) (length graph) starts) vertex is)),
  (λ reached. then_has (within (row_of graph) (length graph) starts) vertex
      (within_if_reached graph starts vertex (still_at_last graph starts closed below) reached)),
)

pub one_below : (vertex n : ℕ) → vertex < n → All (λ v. v < n) (vertex ∷ [])
one_below vertex n below zero d less = below
one_below vertex n below (suc k) d less = absurd (omega arith)
