-- Files of which only the documents in templates are left.
use Rattle.std.specs.Prelude.{◌≡◌, ◌⊎◌, ℕ, ◌==◌, ◌||◌, if◌then◌else◌, List, [], ◌∷◌, map, slice_range, codes}

-- the blank in place of a byte: the end of a line stays, and any other is a space
abbrev pub blank : ℕ → ℕ
blank b = if b == 10 || b == 13 then b else 32

-- byte by byte, a text or blanks
abbrev pub AreMasked : List ℕ → List ℕ → Type 0
AreMasked [] [] = Unit {0}
AreMasked [] (y ∷ ys) = ⊥
AreMasked (x ∷ xs) [] = ⊥
AreMasked (x ∷ xs) (y ∷ ys) = ((y ≡ x) ⊎ (y ≡ blank x)) × AreMasked xs ys

-- what a document comes after
abbrev pub IsTag : List ℕ → Type 0
IsTag part = (part ≡ codes "gql") ⊎ (part ≡ codes "graphql") ⊎ (part ≡ codes "/* GraphQL */")

-- such words are in the text
abbrev pub HasTag : List ℕ → Type 0
HasTag text = (start : ℕ) × (end : ℕ) × IsTag (slice_range text start end)

-- Byte by byte, the masked text is the text or blanks. It is all blank for a text without a tag.
pub record IsMasked (text masked : List ℕ) : Type 0 where
  pub bytes : AreMasked text masked
  pub untagged : (¬ HasTag text) → masked ≡ map blank text
