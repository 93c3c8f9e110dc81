-- Ranges that follow one another and fill a range.
use Rattle.std.specs.Prelude.{◌≡◌, ℕ, List, [], ◌∷◌}

-- the first begins where the whole does, each further one where the one before it has ended, and the last ends with the
-- whole
abbrev pub AreTiles : ℕ → ℕ → List (ℕ × ℕ) → Type 0
AreTiles from to [] = from ≡ to
AreTiles from to (r ∷ rs) = (r.0 ≡ from) × AreTiles r.1 to rs
