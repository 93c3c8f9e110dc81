-- Which errors of a text people see.
use Rattle.std.specs.Prelude.{◌≡◌, ◌-◌, ℕ, List, length, map, take}
use Rattle.apollo_parser.specs.Diagnostics.{Diagnostic}
use Rattle.apollo_parser.specs.Order.{Place}
use Rattle.first_errors.specs.Groups.{Group, definition_starts, groups}

-- the first error of each group
abbrev pub firsts : List Group → List Diagnostic
firsts gs = map (λ (g : Group). g.first) gs

-- Of all errors of a document these are shown: the first of each definition, at most `most` in all. `more` is the
-- number of the others.
pub record IsFirst (document : Place) (errors : List Diagnostic) (most : ℕ) (shown : List Diagnostic)
    (more : ℕ) : Type 0 where
  pub first : shown ≡ take most (firsts (groups (definition_starts document) errors))
  pub others : more ≡ length errors - length shown
