-- The graph of the spreads, row by row.
use Rattle.std.proofs.Common.{arith, rules, None, subst, Option, Bool, true, false, cond, ◌≡◌, ℕ, zero, suc, ◌+◌, ◌<◌}
use Rattle.std.proofs.Common.{List, [], ◌∷◌, length, map, get_or, Some, refl, sym, ◌∙◌, ap}
use Rattle.std.proofs.Math.ListN.{get_or-map}
use Rattle.std.proofs.lemmas.List.{length-map}
use Rattle.std.proofs.lemmas.List.Elements.{Contains-get_or}
use Rattle.std.proofs.lemmas.List.FromFn.{get_or-map-range_with_len, length-map-range_with_len}
use Rattle.std.proofs.lemmas.List.Quantifiers.{position-Some}
use Rattle.std.specs.List.{All, Contains, find, range_with_len}
use Rattle.std.specs.Prelude.{IfSome}
use Rattle.std.specs.declared.alloc.Global.{Global}
use Rattle.std.specs.declared.vec.Vec.{Vec}
use Rattle.directed_graph.specs.Graph.{Graph, row_of, IsClosed}
use Rattle.directed_graph.specs.Reach.{first_return, has_vertex, reaches as graph_reaches, within}
use Rattle.validation_names.proofs.Lists.{filter_map_same, in_filter, in_filter_map, in_range}
use Rattle.validation_names.specs.Definitions.{fragment_names}
use Rattle.validation_names.specs.Mentions.{Named}
use Rattle.validation_names.specs.Names.{Name, Entries, AreFirstNumbers, has_name}
use Rattle.validation_rules.specs.Graphs.{IsSpreadGraph, numbers_of}
use Rattle.validation_rules.specs.Parts.{Parts, at, definitions, fragment_named, is_operation, nothing, numbers}
use Rattle.validation_rules.specs.Parts.{operations, reaches, targets}

abbrev pub row_items : Vec ℕ Global → List ℕ
row_items row = row.items

abbrev pub spread_numbers : Entries ℕ → Parts → List ℕ
spread_numbers fragments d = numbers_of fragments d.spreads

row_of_items : (graph : Graph) (number : ℕ) → row_of graph number ≡ get_or (map row_items graph) number []
row_of_items [] number = refl
row_of_items (row ∷ rows) zero = refl
row_of_items (row ∷ rows) (suc number) = row_of_items rows number

are_targets : (ds : List Parts) (fragments : Entries ℕ) (number : ℕ)
    → AreFirstNumbers fragments (fragment_names (definitions ds))
    → spread_numbers fragments (at ds number) ≡ targets ds number
are_targets ds fragments number are =
    filter_map_same _ (λ (s : Named). fragment_named ds s.name) (λ s. are s.name) (at ds number).spreads

pub is_spread_graph :
    (ds : List Parts) (fragments : Entries ℕ) (graph : Graph)
    → AreFirstNumbers fragments (fragment_names (definitions ds))
    → map row_items graph ≡ map (spread_numbers fragments) ds → IsSpreadGraph ds graph
is_spread_graph ds fragments graph are same = record {
  as_many = sym (length-map graph row_items) ∙ ap length same ∙ length-map ds (spread_numbers fragments);
  edges = λ number.
      row_of_items graph number ∙ ap (λ rows. get_or rows number []) same
      ∙ get_or-map (spread_numbers fragments) ds number nothing
      ∙ are_targets ds fragments number are;
}

pub inside : (ds : List Parts) (name : Name) (to : ℕ) → fragment_named ds name ≡ Some to → to < length ds
inside ds name to is =
    let names = fragment_names (definitions ds) in
    let below = (position-Some (has_name name) names to (Some name) is).0 in
    rw (length-map, length-map) at below

target_inside : (ds : List Parts) (from to : ℕ) → Contains (targets ds from) to → to < length ds
target_inside ds from to there =
    let spread = in_filter_map (λ (s : Named). fragment_named ds s.name) (at ds from).spreads to there in
    inside ds spread.0.name to spread.2

pub is_closed : (ds : List Parts) (graph : Graph) → IsSpreadGraph ds graph → IsClosed graph
is_closed ds graph spreads from to edge = rw spreads.as_many (target_inside ds from to (rw spreads.edges at edge))

-- ---- what is reached in the graph is reached by spreads
pub same_reach : (ds : List Parts) (graph : Graph) (starts : List ℕ) (number : ℕ) → IsSpreadGraph ds graph
    → graph_reaches graph starts number ≡ reaches ds starts number
same_reach ds graph starts number spreads =
    let rows : row_of graph ≡ targets ds = λ i k. spreads.edges k i in
    ap (λ row. has_vertex (within row (length graph) starts) number) rows
    ∙ ap (λ n. has_vertex (within (targets ds) n starts) number) spreads.as_many

pub same_return : (ds : List Parts) (graph : Graph) (number : ℕ) → IsSpreadGraph ds graph
    → first_return graph number ≡ find (λ other. reaches ds (other ∷ []) number) (targets ds number)
same_return ds graph number spreads =
    let tests : (λ other. graph_reaches graph (other ∷ []) number) ≡ (λ other. reaches ds (other ∷ []) number) =
    λ i other. same_reach ds graph (other ∷ []) number spreads i in
    ap (λ test. find test (row_of graph number)) tests
    ∙ ap (find (λ other. reaches ds (other ∷ []) number)) (spreads.edges number)

-- ---- the numbers of operations, and of those that are spread, are those of definitions
pub operations_inside : (ds : List Parts) (number : ℕ) → Contains (operations ds) number → number < length ds
operations_inside ds number there =
    let e : 0 + length ds ≡ length ds = omega arith in
    rw e at (in_range 0 (length ds) number (in_filter (λ k. is_operation (at ds k)) (numbers ds) number there).0)

found_or_behind :
    {X : Type 0} (p : X → Bool) (x : X) (xs : List X) (y : X) (b : Bool) → p x ≡ b
    → (find p xs ≡ Some y → Contains xs y)
    → cond b (Some x) (find p xs) ≡ Some y → Contains (x ∷ xs) y
found_or_behind p x xs y true e rest is = (0, omega arith, let same : x ≡ y = (cc) in same)
found_or_behind p x xs y false e rest is = let (k, below, at) = rest is in (suc k, omega arith, at)

pub find_has : {X : Type 0} (p : X → Bool) (xs : List X) (y : X) → find p xs ≡ Some y → Contains xs y
find_has p [] y is = absurd (cc)
find_has p (x ∷ xs) y is = found_or_behind p x xs y (p x) refl (find_has p xs y) is

-- a definition's edge, among those that lead back
pub long_returns : (ds : List Parts) (graph : Graph) (found : List (Option ℕ)) → IsSpreadGraph ds graph
    → found ≡ map (first_return graph) (range_with_len 0 (length graph)) → length found ≡ length ds
long_returns ds graph found spreads same =
    ap length same ∙ length-map-range_with_len (first_return graph) 0 (length graph) ∙ spreads.as_many

pub cycle_read :
    (ds : List Parts) (graph : Graph) (found : List (Option ℕ)) (number : ℕ) → IsSpreadGraph ds graph
    → found ≡ map (first_return graph) (range_with_len 0 (length graph)) → number < length ds
    → get_or found number None ≡ find (λ other. reaches ds (other ∷ []) number) (targets ds number)
cycle_read ds graph found number spreads same below =
    let inside : number < length graph = rw spreads.as_many below in
    ap (λ xs. get_or xs number None) same
    ∙ get_or-map-range_with_len (first_return graph) 0 (length graph) number number None inside (omega arith)
    ∙ same_return ds graph number spreads

pub all_inside : (ds : List Parts) (graph : Graph) (starts : List ℕ) → IsSpreadGraph ds graph → starts ≡ operations ds
    → All (λ k. k < length graph) starts
all_inside ds graph starts spreads same k d below =
    let there = subst (λ xs. Contains xs (get_or starts k d)) same (Contains-get_or starts k d below) in
    rw spreads.as_many (operations_inside ds (get_or starts k d) there)

pub return_inside : (ds : List Parts) (p : ℕ → Bool) (number : ℕ) (read : Option ℕ) → read ≡ find p (targets ds number)
    → IfSome read (λ k. k < length ds)
return_inside ds p number None is = search rules
return_inside ds p number (Some k) is = target_inside ds number k (find_has p (targets ds number) k (sym is))
