-- A search of a graph: what is known when the rows of the first vertices that were found are marked.
use Rattle.std.proofs.Common.{ltb, ◌≡◌, ◌≢◌, ◌⊎◌, ℕ, zero, suc, ◌<◌, ◌≤◌, ◌+◌, List, []}
use Rattle.std.proofs.Common.{◌∷◌, length, slice_index, get_or, Bool, true, arith, sym, ◌∙◌, ap, ⊎_elim, length-append}
use Rattle.std.proofs.lemmas.Bool.{cases_eq}
use Rattle.std.proofs.lemmas.Grind.{common_steps}
use Rattle.std.proofs.lemmas.List.{get_or_default}
use Rattle.std.proofs.lemmas.List.Elements.{Contains-append_left, Contains-append_right, Contains-append_cases}
use Rattle.std.proofs.lemmas.List.Elements.{Contains-get_or}
use Rattle.std.specs.List.{Contains, All}
use Rattle.std.specs.Prelude.{◌↔◌}
use borrow.Author.Tests.{ltb-true}
use Rattle.directed_graph.proofs.MarkLemmas.{all_marked}
use Rattle.directed_graph.specs.Graph.{Graph, row_of, HasEdge, IsClosed, Reached, start, next}
use Rattle.directed_graph.specs.Marks.{AreDistinct, AreMarked, AreUnmarked, IsMarked, MarksAll}

pub record Searched (graph : Graph) (starts : List ℕ) (marks : List Bool) (found : List ℕ) (done : ℕ) : Type 0 where
  pub as_many : length marks ≡ length graph
  pub within : done ≤ length found
  -- what is found is marked, is a vertex of the graph, and is reached
  pub inside : (vertex : ℕ) → Contains found vertex → vertex < length graph
  pub sound : (vertex : ℕ) → Contains found vertex → Reached (HasEdge graph) starts vertex
  pub listed : (vertex : ℕ) → IsMarked marks vertex → Contains found vertex
  pub marked : AreMarked marks found
  pub distinct : AreDistinct found
  pub begun : (vertex : ℕ) → Contains starts vertex → IsMarked marks vertex
  -- the rows of those that are done are marked
  pub closed : (k to : ℕ) → k < done → HasEdge graph (slice_index found k) to → IsMarked marks to

-- the starts are marked
pub search_begins :
    (graph : Graph) (starts : List ℕ) (unset marks : List Bool) (found : List ℕ)
    → All (λ vertex. vertex < length graph) starts
    → length unset ≡ length graph → AreUnmarked unset → (empty : List ℕ) → empty ≡ []
    → MarksAll starts unset marks empty found
    → Searched graph starts marks found 0
search_begins graph starts unset marks found inside as_many unmarked empty is_empty marks_all =
    begins (rw is_empty at marks_all)
  where
    in_starts : (vertex : ℕ) → Contains starts vertex → vertex < length graph
    in_starts vertex (k, below, is) = rw is at (inside k vertex below)

    none_marked : AreMarked unset []
    none_marked vertex (k, below, is) = absurd (omega arith)

    begins : MarksAll starts unset marks [] found → Searched graph starts marks found 0
    begins so = record {
      as_many = so.as_many ∙ as_many;
      within = omega arith;
      inside = λ vertex there. in_starts vertex (so.from_row vertex (rw so.found at there));
      sound = λ vertex there. start vertex (so.from_row vertex (rw so.found at there));
      listed = λ vertex is.
          ⊎_elim
          (λ (m : IsMarked unset vertex). absurd (unmarked vertex m))
          (λ (there : Contains so.added vertex). rw so.found there)
          (so.no_others vertex is);
      marked = all_marked starts unset marks [] found so none_marked;
      distinct = so.distinct none_marked (λ i j d less below. absurd (omega arith));
      begun = so.marked;
      closed = λ k to below. absurd (omega arith);
    }

-- the row of the next vertex is marked
pub search_goes_on :
    (graph : Graph) (starts : List ℕ) (old new : List Bool) (found_old found_new : List ℕ) (done : ℕ) → IsClosed graph
    → done < length found_old
    → Searched graph starts old found_old done
    → MarksAll (row_of graph (slice_index found_old done)) old new found_old found_new
    → Searched graph starts new found_new (done + 1)
search_goes_on graph starts old new found_old found_new done is_closed below before so = record {
  as_many = so.as_many ∙ before.as_many;
  within = rw (so.found, length-append) (omega arith);
  inside = λ vertex there.
      ⊎_elim
      (λ (was : Contains found_old vertex). before.inside vertex was)
      (λ (is : Contains so.added vertex). is_closed at_done vertex (so.from_row vertex is))
      (parts vertex there);
  sound = λ vertex there.
      ⊎_elim
      (λ (was : Contains found_old vertex). before.sound vertex was)
      (λ (is : Contains so.added vertex). next at_done vertex (before.sound at_done done_found) (so.from_row vertex is))
      (parts vertex there);
  listed = λ vertex is.
      ⊎_elim
      (λ (was : IsMarked old vertex). rw so.found
      (Contains-append_left found_old so.added vertex (before.listed vertex was)))
      (λ (added : Contains so.added vertex). rw so.found (Contains-append_right found_old so.added vertex added))
      (so.no_others vertex is);
  marked = all_marked (row_of graph at_done) old new found_old found_new so before.marked;
  distinct = so.distinct before.marked before.distinct;
  begun = λ vertex there. so.kept vertex (before.begun vertex there);
  closed = λ k to less edge.
      ⊎_elim
      (λ (e : k ≡ done). so.marked to (rw (e, same done below) at edge))
      (λ (ne : k ≢ done). let lt : k < done = omega arith in
      let l : k < length found_old = omega (arith, before.within) in
      so.kept to (before.closed k to lt (rw (same k l) at edge)))
      (cases_eq k done);
}
  where
    at_done : ℕ
    at_done = slice_index found_old done

    done_found : Contains found_old (slice_index found_old done)
    done_found = Contains-get_or found_old done 0 below

    parts : (vertex : ℕ) → Contains found_new vertex → Contains found_old vertex ⊎ Contains so.added vertex
    parts vertex there = Contains-append_cases found_old so.added vertex (rw so.found at there)

    same : (k : ℕ) → k < length found_old → slice_index found_new k ≡ slice_index found_old k
    same k l = rw so.found (grind (arith, common_steps))

-- all rows are marked
marked_if_reached :
    (graph : Graph) (starts : List ℕ) (marks : List Bool) (found : List ℕ)
    → Searched graph starts marks found (length found)
    → (vertex : ℕ) → Reached (HasEdge graph) starts vertex → IsMarked marks vertex
marked_if_reached graph starts marks found so vertex (start _ there) = so.begun vertex there
marked_if_reached graph starts marks found so vertex (next from _ was edge) =
    let (k, below, is) = so.listed from (marked_if_reached graph starts marks found so from was) in
    let e : slice_index found k ≡ from = get_or_default found k 0 from below ∙ is in
    so.closed k vertex below (rw e edge)

pub search_ends :
    (graph : Graph) (starts : List ℕ) (marks : List Bool) (found : List ℕ) (done : ℕ) → done ≡ length found
    → Searched graph starts marks found done
    → (vertex : ℕ) → IsMarked marks vertex ↔ Reached (HasEdge graph) starts vertex
search_ends graph starts marks found done end so vertex =
    let all = rw end at so in
    ((λ is. so.sound vertex (so.listed vertex is)), marked_if_reached graph starts marks found all vertex)

pub found_ends :
    (graph : Graph) (starts : List ℕ) (marks : List Bool) (found : List ℕ) (done : ℕ) → done ≡ length found
    → Searched graph starts marks found done
    → (vertex : ℕ) → Contains found vertex ↔ Reached (HasEdge graph) starts vertex
found_ends graph starts marks found done end so vertex =
    let all = rw end at so in
    (so.sound vertex, λ there. so.listed vertex (marked_if_reached graph starts marks found all vertex there))

pub found_inside :
    (graph : Graph) (starts : List ℕ) (marks : List Bool) (found : List ℕ) (done : ℕ)
    → Searched graph starts marks found done
    → All (λ vertex. vertex < length graph) found
found_inside graph starts marks found done so k d below = so.inside (get_or found k d) (Contains-get_or found k d below)

-- the row that an index reads
pub row_of_read : (graph : Graph) (vertex : ℕ) (row : _) → vertex < length graph → row ≡ get_or graph vertex row
    → row_of graph vertex ≡ row.items
row_of_read [] vertex row below is = absurd (omega arith)
row_of_read (r ∷ rows) zero row below is = ap (λ v. v.items) (sym is)
row_of_read (r ∷ rows) (suc vertex) row below is = row_of_read rows vertex row (omega arith) is

-- the vertex that an index reads among those found
pub next_vertex : (found : List ℕ) (done read : ℕ) → done < length found → read ≡ get_or found done read
    → slice_index found done ≡ read
next_vertex found done read below is = get_or_default found done 0 read below ∙ sym is

pub next_inside :
    (graph : Graph) (starts : List ℕ) (marks : List Bool) (found : List ℕ) (done read : ℕ)
    → Searched graph starts marks found done → done < length found
    → read ≡ get_or found done read → read < length graph
next_inside graph starts marks found done read so below is = so.inside read (done, below, sym is)

pub row_within :
    (graph : Graph) (marks : List Bool) (vertex : ℕ) (items : List ℕ) → IsClosed graph → length marks ≡ length graph
    → items ≡ row_of graph vertex
    → All (λ to. to < length marks) items
row_within graph marks vertex items is_closed as_many same k d inside =
    rw as_many (is_closed vertex (get_or items k d) (rw (← same) (Contains-get_or items k d inside)))

pub goes_on :
    (graph : Graph) (starts : List ℕ) (old new : List Bool) (found_old found_new : List ℕ) (done vertex : ℕ)
    (items : List ℕ) → IsClosed graph
    → done < length found_old → vertex ≡ get_or found_old done vertex → items ≡ row_of graph vertex
    → Searched graph starts old found_old done
    → MarksAll items old new found_old found_new → Searched graph starts new found_new (done + 1)
goes_on graph starts old new found_old found_new done vertex items is_closed below is same before so =
    let e = next_vertex found_old done vertex below is in
    let all : MarksAll (row_of graph (slice_index found_old done)) old new found_old found_new = rw (e, ← same) so in
    search_goes_on graph starts old new found_old found_new done is_closed below before all

-- an edge that is read by its number
pub edge_read :
    (graph : Graph) (from number to : ℕ) (row : _) (items : List ℕ) → true ≡ ltb from (length graph)
    → row ≡ get_or graph from row
    → items ≡ row.items → true ≡ ltb number (length items) → to ≡ get_or items number to → HasEdge graph from to
edge_read graph from number to row items below is same inside at =
    let less : from < length graph = ltb-true _ _ (sym below) in
    let e = row_of_read graph from row less is in
    rw (e, ← same) (number, ltb-true _ _ (sym inside), sym at)

-- what is so at each number of a row is so of each edge
pub in_row :
    (P : ℕ → Type 0) (graph : Graph) (vertex : ℕ) (items : List ℕ) (n : ℕ)
    → items ≡ row_of graph vertex → length items ≤ n
    → ((k : ℕ) → k < n → P (slice_index items k)) → (to : ℕ) → HasEdge graph vertex to → P to
in_row P graph vertex items n same end each to edge =
    let at = rw (← same) at edge in
    let (k, below, is) = at in
    let e : slice_index items k ≡ to = get_or_default items k 0 to below ∙ is in
    rw (← e) (each k (omega arith))
