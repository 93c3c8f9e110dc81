-- What is known of the components of a graph, and what of it is tested.
use Rattle.std.specs.Prelude.{◌≡◌, ◌⊎◌, ℕ, ◌<◌, List, length, slice_index_or}
use Rattle.directed_graph.specs.Graph.{Graph, HasEdge}
use Rattle.directed_graph.specs.declared.components.Part.{Part}

abbrev pub no_part : Part
no_part = record {
  component = 0;
  root = 0;
  out = 0;
  to_root = 0;
  into = record { from = 0; number = 0 };
  from_root = 0;
}

abbrev pub part_of : List Part → ℕ → Part
part_of parts vertex = slice_index_or parts vertex no_part

-- A vertex is its root, or has an edge to one nearer to the same root.
abbrev pub Nears : (ℕ → ℕ → Type 0) → (ℕ → ℕ) → (ℕ → ℕ) → ℕ → Type 0
Nears IsEdge root distance vertex =
    (root vertex ≡ vertex) ⊎ ((to : ℕ) × IsEdge vertex to × (root to ≡ root vertex) × (distance to < distance vertex))

abbrev pub GoesOut : Graph → List Part → ℕ → Type 0
GoesOut graph parts vertex = Nears (HasEdge graph) (λ v. (part_of parts v).root) (λ v. (part_of parts v).to_root) vertex

abbrev pub ComesIn : Graph → List Part → ℕ → Type 0
ComesIn graph parts vertex =
    Nears (λ to from. HasEdge graph from to) (λ v. (part_of parts v).root) (λ v. (part_of parts v).from_root) vertex

-- A vertex is in a later component than another, or in the same.
abbrev pub Follows : List Part → Part → ℕ → Type 0
Follows parts part to =
    (part.component < (part_of parts to).component)
    ⊎ (((part_of parts to).component ≡ part.component) × ((part_of parts to).root ≡ part.root))

pub record IsSound (graph : Graph) (parts : List Part) (vertex : ℕ) : Type 0 where
  pub order : (to : ℕ) → HasEdge graph vertex to → Follows parts (part_of parts vertex) to
  pub out : GoesOut graph parts vertex
  pub into : ComesIn graph parts vertex

abbrev pub AreSound : Graph → List Part → ℕ → Type 0
AreSound graph parts n = (vertex : ℕ) → vertex < n → IsSound graph parts vertex

-- All is so for all vertices.
pub record AreSoundFor (graph : Graph) (parts : List Part) : Type 0 where
  pub as_many : length parts ≡ length graph
  pub each : AreSound graph parts (length graph)
