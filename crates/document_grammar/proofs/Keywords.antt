-- A test of each kind and text of a list holds of each one in it.
use Rattle.std.proofs.Common.{◌≡◌, ℕ, Bool, true, List, [], ◌∷◌, subst, inl, inr}
use Rattle.document_grammar.proofs.Booleans.{and-l, and-r}
use Rattle.document_grammar.specs.Booleans.{◌and◌}
use Rattle.document_grammar.specs.Derivation.{Listed}
use Rattle.document_grammar.specs.Tree.{Text}

abbrev pub all_words : List (ℕ × Text) → (ℕ → Text → Bool) → Bool
all_words [] t = true
all_words (w ∷ more) t = t w.0 w.1 and all_words more t

pub listed-at : (ws : List (ℕ × Text)) (t : ℕ → Text → Bool) (l : ℕ) (x : Text) → all_words ws t ≡ true
    → Listed ws l x → t l x ≡ true
listed-at [] t l x h i = absurd i
listed-at (w ∷ more) t l x h i = elim i [
  | inl p ↦ subst (λ (n : ℕ). t n x ≡ true) p.0 (subst (λ (y : Text). t w.0 y ≡ true) p.1 (and-l _ _ h))
  | inr p ↦ listed-at more t l x (and-r _ _ h) p
]
