-- Components that passed the tests: an edge leads back exactly if both its ends are in one component.
use Rattle.std.proofs.Common.{◌+◌, ◌++◌, Option, None, get_or, length-append, ◌≡◌, ◌≢◌, ℕ, zero, suc, ◌<◌, ◌≤◌, List}
use Rattle.std.proofs.Common.{[], ◌∷◌, length, arith, refl, sym, ⊎_elim}
use Rattle.std.proofs.lemmas.Bool.{cases_eq, cases_lt}
use Rattle.std.proofs.lemmas.Grind.{common_steps}
use Rattle.std.specs.List.{Contains}
use Rattle.directed_graph.specs.Graph.{Graph, HasEdge, IsClosed, Reached, start, next}
use Rattle.directed_graph.specs.Parts.{part_of, AreSound}
use Rattle.directed_graph.specs.declared.components.Part.{Part}

-- the other vertex is this one, or edges lead from it to this one
abbrev pub LeadsTo : Graph → ℕ → ℕ → Type 0
LeadsTo graph vertex other = Reached (HasEdge graph) (other ∷ []) vertex

pub no_row : (graph : Graph) (from to : ℕ) → length graph ≤ from → ¬ HasEdge graph from to
no_row [] from to above (k, inside, is) = absurd (omega arith)
no_row (r ∷ rs) zero to above edge = absurd (omega arith)
no_row (r ∷ rs) (suc from) to above edge = no_row rs from to (omega arith) edge

begins_inside : (graph : Graph) (from to : ℕ) → HasEdge graph from to → from < length graph
begins_inside graph from to edge =
    ⊎_elim (λ (below : from < length graph). below)
    (λ (above : length graph ≤ from). absurd (no_row graph from to above edge)) (cases_lt from (length graph))

only_one : (a b : ℕ) → Contains (a ∷ []) b → a ≡ b
only_one a b (zero, below, is) = is
only_one a b (suc k, below, is) = absurd (omega arith)

itself : (graph : Graph) (a : ℕ) → Reached (HasEdge graph) (a ∷ []) a
itself graph a = start a (0, omega arith, refl)

through : (graph : Graph) (a b c : ℕ) → Reached (HasEdge graph) (a ∷ []) b → Reached (HasEdge graph) (b ∷ []) c
    → Reached (HasEdge graph) (a ∷ []) c
through graph a b c first (start _ there) = rw (← only_one b c there) first
through graph a b c first (next from _ was edge) = next from c (through graph a b from first was) edge

-- edges lead from each vertex to its root
to_root :
    (graph : Graph) (parts : List Part) → IsClosed graph → AreSound graph parts (length graph) → (n v : ℕ)
    → v < length graph → (part_of parts v).to_root ≤ n
    → Reached (HasEdge graph) (v ∷ []) (part_of parts v).root
to_root graph parts closed sound zero v below le =
    ⊎_elim
    (λ (e : (part_of parts v).root ≡ v). rw e (itself graph v))
    (λ (at : (to : ℕ) × HasEdge graph v to × ((part_of parts to).root ≡ (part_of parts v).root)
    × ((part_of parts to).to_root < (part_of parts v).to_root)).
    absurd (let less = at.3 in omega arith))
    (sound v below).out
to_root graph parts closed sound (suc n) v below le =
    ⊎_elim
    (λ (e : (part_of parts v).root ≡ v). rw e (itself graph v))
    (λ (at : (to : ℕ) × HasEdge graph v to × ((part_of parts to).root ≡ (part_of parts v).root)
    × ((part_of parts to).to_root < (part_of parts v).to_root)).
    let less = at.3 in
    let rest = to_root graph parts closed sound n at.0 (closed v at.0 at.1) (omega arith) in
    rw (← at.2) (through graph v at.0 (part_of parts at.0).root (next v at.0 (itself graph v) at.1) rest))
    (sound v below).out

-- and from the root to it
from_root :
    (graph : Graph) (parts : List Part) → AreSound graph parts (length graph) → (n v : ℕ) → v < length graph
    → (part_of parts v).from_root ≤ n
    → Reached (HasEdge graph) ((part_of parts v).root ∷ []) v
from_root graph parts sound zero v below le =
    ⊎_elim
    (λ (e : (part_of parts v).root ≡ v). rw e (itself graph v))
    (λ (at : (from : ℕ) × HasEdge graph from v × ((part_of parts from).root ≡ (part_of parts v).root)
    × ((part_of parts from).from_root <
    (part_of parts v).from_root)).
    absurd (let less = at.3 in omega arith))
    (sound v below).into
from_root graph parts sound (suc n) v below le =
    ⊎_elim
    (λ (e : (part_of parts v).root ≡ v). rw e (itself graph v))
    (λ (at : (from : ℕ) × HasEdge graph from v × ((part_of parts from).root ≡ (part_of parts v).root)
    × ((part_of parts from).from_root <
    (part_of parts v).from_root)).
    let less = at.3 in
    let rest = from_root graph parts sound n at.0 (begins_inside graph at.0 v at.1) (omega arith) in
    next at.0 v (rw (← at.2) rest) at.1)
    (sound v below).into

rises :
    (graph : Graph) (parts : List Part) → AreSound graph parts (length graph) → (a b : ℕ)
    → Reached (HasEdge graph) (a ∷ []) b
    → (part_of parts a).component ≤ (part_of parts b).component
rises graph parts sound a b (start _ there) = rw (only_one a b there) (omega arith)
rises graph parts sound a b (next from _ was edge) =
    let before = rises graph parts sound a from was in
    ⊎_elim
    (λ (less : (part_of parts from).component < (part_of parts b).component). omega arith)
    (λ (same : ((part_of parts b).component ≡ (part_of parts from).component)
    × ((part_of parts b).root ≡ (part_of parts from).root)).
    let e = same.0 in omega arith)
    ((sound from (begins_inside graph from b edge)).order b edge)

pub back_if_same :
    (graph : Graph) (parts : List Part) (v w : ℕ) → IsClosed graph
    → AreSound graph parts (length graph) → HasEdge graph v w
    → (part_of parts v).component ≡ (part_of parts w).component → LeadsTo graph v w
back_if_same graph parts v w closed sound edge e =
    let below = begins_inside graph v w edge in
    let inside = closed v w edge in
    ⊎_elim
    (λ (less : (part_of parts v).component < (part_of parts w).component). absurd (omega arith))
    (λ (same : ((part_of parts w).component ≡ (part_of parts v).component)
    × ((part_of parts w).root ≡ (part_of parts v).root)).
    let out = to_root graph parts closed sound (part_of parts w).to_root w inside (omega arith) in
    let into = from_root graph parts sound (part_of parts v).from_root v below (omega arith) in
    through graph w (part_of parts w).root v out (rw same.1 into))
    ((sound v below).order w edge)

pub same_if_back :
    (graph : Graph) (parts : List Part) (v w : ℕ) → AreSound graph parts (length graph)
    → HasEdge graph v w → LeadsTo graph v w
    → (part_of parts v).component ≡ (part_of parts w).component
same_if_back graph parts v w sound edge back =
    let le = rises graph parts sound w v back in
    ⊎_elim
    (λ (less : (part_of parts v).component < (part_of parts w).component). absurd (omega arith))
    (λ (same : ((part_of parts w).component ≡ (part_of parts v).component)
    × ((part_of parts w).root ≡ (part_of parts v).root)). sym same.0)
    ((sound v (begins_inside graph v w edge)).order w edge)
