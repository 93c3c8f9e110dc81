-- Where records of a table begin.
use Rattle.std.specs.Prelude.{ℕ, ◌≤◌, ◌<◌}
use Rattle.apollo_tree.specs.Order.{range_at}
use Rattle.apollo_tree.specs.References.{table_place}
use Rattle.apollo_tree.specs.declared.node.Table.{Table}

-- the records of a table from one up to another begin before an offset; or at it or after it
abbrev pub BeginBefore : ℕ → Table → ℕ → ℕ → Type 0
BeginBefore offset t from to = (k : ℕ) → from ≤ k → k < to → (range_at (table_place t k)).0 < offset

abbrev pub BeginFrom : ℕ → Table → ℕ → ℕ → Type 0
BeginFrom offset t from to = (k : ℕ) → from ≤ k → k < to → offset ≤ (range_at (table_place t k)).0
