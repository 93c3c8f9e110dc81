-- An element, the node that it is a child of, and so on up to the root.
use Rattle.std.specs.Prelude.{◌≡◌, ℕ, zero, suc, List, [], ◌∷◌, Option, Some, None}
use Rattle.apollo_tree.specs.Order.{Place, parent_place}

-- the places are an element's, its parent's, and so on, and the last of them has no parent
abbrev pub IsChainOfParents : Option Place → List Place → Type 0
IsChainOfParents None ps = ps ≡ []
IsChainOfParents (Some p) [] = ⊥
IsChainOfParents (Some p) (q ∷ qs) = (q ≡ p) × IsChainOfParents (parent_place p) qs

-- the first n of them
abbrev pub first_parents : ℕ → Option Place → List Place
first_parents zero p = []
first_parents (suc n) None = []
first_parents (suc n) (Some p) = p ∷ first_parents n (parent_place p)

-- all of them: a parent comes before its children in document order, so there are no more than the places up to the
-- element's own
abbrev pub at_or_above : Place → List Place
at_or_above p = first_parents (suc p.index) (Some p)
