-- Whether the accessors of a node reach all its children.
use Rattle.std.specs.Prelude.{ℕ, Bool, false, List, [], ◌∷◌, ◌==◌, ◌&&◌, ◌||◌}
use Rattle.apollo_cst_core.specs.Accessors.{accessors}
use Rattle.apollo_cst_core.specs.Cast.{in_list}
use Rattle.apollo_cst_core.specs.ReadingBack.{Accessor, nodes, leaf}

-- one of the accessors is of this kind of node, and looks for children of the kind k
abbrev pub covers : List Accessor → ℕ → ℕ → Bool
covers [] kind k = false
covers (nodes of kinds n ∷ more) kind k = (of == kind && in_list kinds k) || covers more kind k
covers (leaf of l n ∷ more) kind k = (of == kind && k == l) || covers more kind k

unfoldable pub is_covered : ℕ → ℕ → Bool
is_covered kind k = covers accessors kind k
