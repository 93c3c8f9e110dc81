-- How messages about a place of a text begin.
use Rattle.std.specs.Prelude.{◌≡◌, ℕ, ◌+◌, List, [], ◌∷◌, ◌++◌, codes, decimal, slice_range}
use Rattle.line_index.specs.Columns.{char_count}
use Rattle.line_index.specs.Lines.{line_at, line_start}
use Rattle.marked_lines.specs.Escaping.{shown}

-- the line of a byte offset, and its column there in characters, both from 1
abbrev pub line_number : List ℕ → ℕ → ℕ
line_number text offset = line_at text offset + 1

abbrev pub column_number : List ℕ → ℕ → ℕ
column_number text offset = char_count (slice_range text (line_start text offset) offset) + 1

-- `NAME:LINE:COLUMN: `, as `a.graphql:3:7: `
abbrev pub place : List ℕ → List ℕ → ℕ → List ℕ
place name text offset =
    shown name ++ codes ":" ++ decimal (line_number text offset) ++ codes ":"
    ++ decimal (column_number text offset) ++ codes ": "

-- The text begins with this front. What follows is not stated.
pub record BeginsWith (text front : List ℕ) : Type 0 where
  pub rest : List ℕ
  pub is : text ≡ front ++ rest

-- The fact holds of the first item, if there is one.
abbrev pub OfFirst : {X : Type 0} → (X → Type 0) → List X → Type 0
OfFirst P [] = Unit {0}
OfFirst P (x ∷ xs) = P x
