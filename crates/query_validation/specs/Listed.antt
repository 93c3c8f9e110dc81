-- Lists of breaches that are filled up to a bound.
use Rattle.std.specs.Prelude.{◌≡◌, ℕ, List, ◌++◌, take}
use Rattle.query_validation.specs.Breaches.{QueryBreach}

-- Breaches were added in order. Of what is beyond the bound nothing is said: some of it may be lacking.
abbrev pub Lists : ℕ → List QueryBreach → List QueryBreach → List QueryBreach → Type 0
Lists most breaches old new = take most new ≡ take most (old ++ breaches)
