-- The graph of the spreads.
use Rattle.std.specs.List.{filter_map}
use Rattle.std.specs.Prelude.{◌≡◌, ℕ, List, length}
use Rattle.directed_graph.specs.Graph.{Graph, row_of}
use Rattle.validation_names.specs.Mentions.{Named}
use Rattle.validation_names.specs.Names.{Entries, entry_of}
use Rattle.validation_rules.specs.Parts.{Parts, targets}

-- the numbers that a map has for names
abbrev pub numbers_of : Entries ℕ → List Named → List ℕ
numbers_of fragments spreads = filter_map (λ (s : Named). entry_of fragments s.name) spreads

-- The edges of the graph are the spreads.
pub record IsSpreadGraph (ds : List Parts) (graph : Graph) : Type 0 where
  pub as_many : length graph ≡ length ds
  pub edges : (number : ℕ) → row_of graph number ≡ targets ds number
