-- Texts that are masked part by part.
use Rattle.std.proofs.Common.{◌≡◌, ◌⊎◌, ℕ, ◌+◌, ◌-◌, ◌≤◌, Bool, true, false, List, [], ◌∷◌, ◌++◌, map, take, inl, inr}
use Rattle.std.proofs.Common.{refl, sym, ap, ◌∙◌, subst, arith}
use Rattle.std.proofs.Math.Seq.{take-add}
use Rattle.std.proofs.lemmas.Bool.{cases_Bool}
use Rattle.std.proofs.lemmas.List.{map-append}
use Rattle.std.specs.Prelude.{slice_range}
use Rattle.embedded_documents.specs.Masked.{AreMasked, blank}

appended : (xs ys front rest : List ℕ) → AreMasked xs front → AreMasked ys rest → AreMasked (xs ++ ys) (front ++ rest)
appended [] ys [] rest a b = b
appended [] ys (f ∷ front) rest a b = absurd a
appended (x ∷ xs) ys [] rest a b = absurd a
appended (x ∷ xs) ys (f ∷ front) rest a b = (a.0, appended xs ys front rest a.1 b)

kept : (xs : List ℕ) → AreMasked xs xs
kept [] = tt
kept (x ∷ xs) = (inl refl, kept xs)

blanked : (xs : List ℕ) → AreMasked xs (map blank xs)
blanked [] = tt
blanked (x ∷ xs) = (inr refl, blanked xs)

-- the front of a text, and the part behind it
front_and : (text : List ℕ) (a b : ℕ) → a ≤ b → take a text ++ slice_range text a b ≡ take b text
front_and text a b le =
    let to : a + (b - a) ≡ b = omega arith in sym (ap (λ (n : ℕ). take n text) (sym to) ∙ take-add a (b - a) text)

-- one more part
pub masked_more : (text masked new : List ℕ) (a b : ℕ) → a ≤ b → AreMasked (take a text) masked
    → (new ≡ masked ++ slice_range text a b) ⊎ (new ≡ masked ++ map blank (slice_range text a b))
    → AreMasked (take b text) new
masked_more text masked new a b le is made =
    let part : List ℕ = slice_range text a b in
    let to : (rest : List ℕ) → AreMasked part rest → new ≡ masked ++ rest → AreMasked (take b text) new =
    λ rest more so. subst (λ (x : List ℕ). AreMasked x new) (front_and text a b le)
    (subst (λ (x : List ℕ). AreMasked (take a text ++ part) x) (sym so)
    (appended (take a text) part masked rest is more)) in
    elim made [ inl same ↦ to part (kept part) same | inr blanks ↦ to (map blank part) (blanked part) blanks ]

-- one more part, which is blank in a text that has no document
pub blank_more : {A : Type 0} (text masked new : List ℕ) (a b : ℕ) (is_document : Bool) → a ≤ b
    → (is_document ≡ true → A)
    → ((¬ A) → masked ≡ map blank (take a text))
    → (is_document ≡ false → new ≡ masked ++ map blank (slice_range text a b))
    → (¬ A) → new ≡ map blank (take b text)
blank_more text masked new a b is_document le document is made none =
    let part : List ℕ = slice_range text a b in
    let blanks : is_document ≡ false → new ≡ map blank (take b text) =
    λ no. made no ∙ ap (λ (x : List ℕ). x ++ map blank part) (is none) ∙ sym (map-append blank (take a text) part)
    ∙ ap (map blank) (front_and text a b le) in
    elim (cases_Bool is_document) [ inl is_so ↦ absurd (none (document is_so)) | inr other ↦ blanks other ]
