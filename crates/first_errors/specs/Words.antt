-- The words of an error for people.
use Rattle.std.specs.Prelude.{◌≡◌, ◌≢◌, ◌⊎◌, ℕ, List, [], ◌∷◌, ◌++◌}
use Rattle.first_errors.specs.declared.words.TheConstants.{WORDS}

-- In the message for people, the earliest row whose first text begins the message has the words in place of that.
abbrev pub IsReplaced : {Row : Type 0} → (Row → List ℕ) → (Row → List ℕ) → List Row → List ℕ → List ℕ → Type 0
IsReplaced front words [] message shown = shown ≡ message
IsReplaced front words (row ∷ rows) message shown =
    ((rest : List ℕ) × (message ≡ front row ++ rest) × (shown ≡ words row ++ rest))
    ⊎ (((rest : List ℕ) → message ≢ front row ++ rest) × IsReplaced front words rows message shown)

abbrev pub IsForPeople : List ℕ → List ℕ → Type 0
IsForPeople message shown = IsReplaced (λ row. row.0.now) (λ row. row.1.now) WORDS message shown
