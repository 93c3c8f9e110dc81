-- What is reached from some vertices, as a list and as a test.
use Rattle.std.specs.List.{find, flat_map, list_any}
use Rattle.std.specs.Prelude.{ℕ, zero, suc, ◌==◌, List, [], ◌∷◌, ◌++◌, length, Bool, Option}
use Rattle.directed_graph.specs.Graph.{Graph, row_of}

abbrev pub has_vertex : List ℕ → ℕ → Bool
has_vertex vertices vertex = list_any (λ v. v == vertex) vertices

-- the starts, and what at most n edges lead to from them
abbrev pub within : (ℕ → List ℕ) → ℕ → List ℕ → List ℕ
within row zero starts = starts
within row (suc n) starts = within row n starts ++ flat_map row (within row n starts)

-- The vertex is one of the starts, or edges lead to it from one of them. No way needs more edges than there are
-- vertices. The law `reaches_decides` says that it decides `Reached`.
abbrev pub reaches : Graph → List ℕ → ℕ → Bool
reaches graph starts vertex = has_vertex (within (row_of graph) (length graph) starts) vertex

-- the first edge of a vertex that leads back to it, if there is one
abbrev pub first_return : Graph → ℕ → Option ℕ
first_return graph vertex = find (λ other. reaches graph (other ∷ []) vertex) (row_of graph vertex)
