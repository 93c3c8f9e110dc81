-- The leaves at a byte offset.
use Rattle.std.specs.List.{filter}
use Rattle.std.specs.Prelude.{ℕ, List, [], ◌∷◌, Bool, ◌&&◌, nat_le, nat_lt}
use Rattle.apollo_tree.specs.Below.{below, is_leaf_place}
use Rattle.apollo_tree.specs.Order.{Place, range_at}
use Rattle.apollo_tree.specs.References.{token_place}
use Rattle.apollo_tree.specs.declared.at_offset.TokenAtOffset.{TokenAtOffset}
use Rattle.apollo_tree.specs.declared.at_offset.TokenAtOffset.TheVariants as answer

-- a range has the byte at an offset, or the byte before it
abbrev pub meets : ℕ → ℕ × ℕ → Bool
meets offset range = nat_lt range.0 range.1 && (nat_le range.0 offset && nat_le offset range.1)

abbrev pub is_at_offset : ℕ → Place → Bool
is_at_offset offset p = is_leaf_place p && meets offset (range_at p)

-- the leaves below an element that have the byte at an offset, or the byte before it
abbrev pub leaves_at : ℕ → Place → List Place
leaves_at offset p = filter (is_at_offset offset) (below p)

-- the leaves that an answer names
abbrev pub answer_places : TokenAtOffset → List Place
answer_places answer.None = []
answer_places (answer.Single leaf) = token_place leaf ∷ []
answer_places (answer.Between left right) = token_place left ∷ token_place right ∷ []
