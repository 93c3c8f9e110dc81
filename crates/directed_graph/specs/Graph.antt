-- Directed graphs, as lists of the vertices that the edges from each vertex lead to.
use Rattle.std.specs.List.{Contains}
use Rattle.std.specs.Prelude.{ℕ, zero, suc, ◌<◌, List, [], ◌∷◌, length}
use Rattle.std.specs.declared.alloc.Global.{Global}
use Rattle.std.specs.declared.vec.Vec.{Vec}

abbrev pub Graph : Type 0
Graph = List (Vec ℕ Global)

-- where the edges from a vertex lead
abbrev pub row_of : Graph → ℕ → List ℕ
row_of [] vertex = []
row_of (row ∷ rows) zero = row.items
row_of (row ∷ rows) (suc vertex) = row_of rows vertex

abbrev pub HasEdge : Graph → ℕ → ℕ → Type 0
HasEdge graph from to = Contains (row_of graph from) to

-- each edge leads to a vertex of the graph
abbrev pub IsClosed : Graph → Type 0
IsClosed graph = (from to : ℕ) → HasEdge graph from to → to < length graph

-- The vertex is one of the starts, or edges lead to it from one of them.
pub data Reached (IsEdge : ℕ → ℕ → Type 0) (starts : List ℕ) : ℕ → Type 0 where
  start : (vertex : ℕ) → Contains starts vertex → Reached IsEdge starts vertex
  next : (from to : ℕ) → Reached IsEdge starts from → IsEdge from to → Reached IsEdge starts to
