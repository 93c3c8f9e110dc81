-- Vertices that are marked, and found.
use Rattle.std.specs.List.{AllPairs, Contains, count_by}
use Rattle.std.specs.Prelude.{◌≡◌, ◌≢◌, ◌⊎◌, ℕ, ◌+◌, List, ◌++◌, length, Bool, true, false, slice_index_or, not}

abbrev pub IsMarked : List Bool → ℕ → Type 0
IsMarked marks vertex = slice_index_or marks vertex false ≡ true

abbrev pub AreUnmarked : List Bool → Type 0
AreUnmarked marks = (vertex : ℕ) → ¬ IsMarked marks vertex

-- how many vertices are not marked
abbrev pub unmarked : List Bool → ℕ
unmarked marks = count_by not marks

-- no vertex is there twice
abbrev pub AreDistinct : List ℕ → Type 0
AreDistinct vertices = AllPairs (λ a b. a ≢ b) vertices

abbrev pub AreMarked : List Bool → List ℕ → Type 0
AreMarked marks vertices = (vertex : ℕ) → Contains vertices vertex → IsMarked marks vertex

-- Of some vertices, those that were not marked are now, and were added to the vertices that are found.
pub record MarksAll (row : List ℕ) (old new : List Bool) (found_old found_new : List ℕ) : Type 0 where
  pub as_many : length new ≡ length old
  pub kept : (vertex : ℕ) → IsMarked old vertex → IsMarked new vertex
  pub marked : (vertex : ℕ) → Contains row vertex → IsMarked new vertex
  pub added : List ℕ
  pub found : found_new ≡ found_old ++ added
  pub from_row : (vertex : ℕ) → Contains added vertex → Contains row vertex
  pub no_others : (vertex : ℕ) → IsMarked new vertex → IsMarked old vertex ⊎ Contains added vertex
  -- each vertex that was found had no mark
  pub budget : unmarked new + length found_new ≡ unmarked old + length found_old
  pub distinct : AreMarked old found_old → AreDistinct found_old → AreDistinct found_new

-- Some vertices are no longer marked, and no other is marked anew.
pub record Unmarks (vertices : List ℕ) (old new : List Bool) : Type 0 where
  pub as_many : length new ≡ length old
  pub still : (vertex : ℕ) → IsMarked new vertex → IsMarked old vertex × (¬ Contains vertices vertex)
