-- The places of the trees that follow one another in a table.
use Rattle.std.specs.List.{filter}
use Rattle.std.specs.Prelude.{◌≡◌, ℕ, zero, suc, pred, ◌-◌, ◌≤◌, List, [], ◌∷◌, length, take, drop, map, Bool, true}
use Rattle.std.specs.Prelude.{false}
use Rattle.apollo_tree.specs.Order.{Place, element, tree_at, is_node}
use Rattle.apollo_tree.specs.declared.record.Record.{Record}

-- from the record with the number i on, after the first n
abbrev pub heads : ℕ → ℕ → List Record → List ℕ
heads n i [] = []
heads zero i (r ∷ rs) = i ∷ heads (pred r.size) (suc i) rs
heads (suc n) i (r ∷ rs) = heads n (suc i) rs

-- the records after the first n are those of whole trees
abbrev pub tiled : ℕ → List Record → Bool
tiled zero [] = true
tiled (suc n) [] = false
tiled zero (r ∷ rs) = elim r.size [ zero ↦ false | suc n ↦ tiled n rs ]
tiled (suc n) (r ∷ rs) = tiled n rs

-- the records from one place to another are those of whole trees
pub record IsSpan (rs : List Record) (from to : ℕ) : Type 0 where
  pub order : from ≤ to
  pub inside : to ≤ length rs
  pub trees : tiled 0 (take (to - from) (drop from rs)) ≡ true

abbrev pub span_heads : List Record → ℕ → ℕ → List ℕ
span_heads rs from to = heads 0 from (take (to - from) (drop from rs))

-- the children of an element, and those that are nodes
abbrev pub child_places : Place → List Place
child_places p = map (λ i. record { whole = p.whole; index = i }) (element p).children

abbrev pub is_node_place : Place → Bool
is_node_place p = is_node (tree_at p)

abbrev pub child_nodes : Place → List Place
child_nodes p = filter is_node_place (child_places p)
