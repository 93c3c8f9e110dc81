-- The errors of the definitions, and the diagnostics on them.
use Rattle.std.proofs.Common.{◌≡◌, ◌<◌, ◌+◌, ◌-◌, ℕ, suc, get_or, List, [], ◌∷◌, ◌++◌, Bool, true, false, cond, None}
use Rattle.std.proofs.Common.{map, take, drop, length, min, ap, refl, sym, ◌∙◌, inl, inr, arith}
use Rattle.std.proofs.Math.Seq.{take-suc}
use Rattle.std.proofs.lemmas.Bool.{cases_Bool}
use Rattle.std.proofs.lemmas.List.{length-map, map-append, take-map, take_min}
use Rattle.std.proofs.lemmas.List.Sums.{take_while-cons}
use Rattle.std.specs.Prelude.{take_while}
use Rattle.apollo_lexer.specs.Diagnostics.{Diagnostic}
use Rattle.first_errors.specs.Groups.{Group, group_of, groups, is_earlier}
use Rattle.editor_diagnostics.specs.Diagnostics.{Diagnosis}
use Rattle.editor_diagnostics.specs.Syntax.{IsAboutFirst, as_group, more_diagnostics, syntax_diagnostic}
use Rattle.editor_diagnostics.specs.Syntax.{syntax_diagnostics}
use Rattle.editor_diagnostics.specs.declared.syntax.ErrorGroup.{ErrorGroup}

-- the diagnostics after that on the first group
abbrev diagnostics_after : ℕ → Diagnostic → List Group → List Diagnosis
diagnostics_after others error more =
    map syntax_diagnostic (take 99 more)
    ++ more_diagnostics (length (record { first = error; others = others } ∷ more) - 100)

abbrev diagnostics_on : List Group → List Diagnosis
diagnostics_on gs = map syntax_diagnostic (take 100 gs) ++ more_diagnostics (length gs - 100)

-- the diagnostics on the first hundred groups, and how many more there are
pub capped : (starts : List ℕ) (errors : List Diagnostic) (items slice : List ErrorGroup) (most : ℕ)
    (found now : List Diagnosis)
    → map as_group items ≡ groups starts errors → slice ≡ items → most ≡ min 100 (length slice)
    → found ≡ map syntax_diagnostic (map as_group (take most slice))
    → now ≡ found ++ more_diagnostics (length slice - most)
    → now ≡ syntax_diagnostics starts errors
capped starts errors items slice most found now are view at_most first added =
    let all : List Group = map as_group slice in
    let size : length all ≡ length slice = length-map slice as_group in
    let same : most ≡ min 100 (length all) = omega (arith, at_most, size) in
    let rest : length slice - most ≡ length all - 100 = omega (arith, at_most, size) in
    let shown : map as_group (take most slice) ≡ take 100 all =
    sym (take-map as_group most slice) ∙ ap (λ (n : ℕ). take n all) same ∙ take_min 100 all in
    added
    ∙ ap (λ (rs : List Diagnosis). rs ++ more_diagnostics (length slice - most))
    (first ∙ ap (map syntax_diagnostic) shown)
    ∙ ap (λ (n : ℕ). map syntax_diagnostic (take 100 all) ++ more_diagnostics n) rest
    ∙ ap diagnostics_on (ap (map as_group) view ∙ are)

-- one more thing made of the next of some
pub one_made : {A B C D : Type 0} (f : A → D) (g : C → D) (h : B → C) (made now : List A) (all : List B) (k : ℕ)
    (x : A) (b : B)
    → map f made ≡ map g (map h (take k all)) → now ≡ made ++ x ∷ [] → f x ≡ g (h b)
    → b ≡ get_or all k b → k < length all
    → map f now ≡ map g (map h (take (k + 1) all))
one_made f g h made now all k x b so_far added is item within =
    let next : k + 1 ≡ suc k = omega arith in
    let taken : take (k + 1) all ≡ take k all ++ b ∷ [] =
    ap (λ (n : ℕ). take n all) next ∙ take-suc all k b within ∙ ap (λ y. take k all ++ y ∷ []) (sym item) in
    ap (map f) added ∙ map-append f made (x ∷ []) ∙ ap (λ ys. ys ++ f x ∷ []) so_far
    ∙ ap (λ y. map g (map h (take k all)) ++ y ∷ []) is
    ∙ sym (ap (λ bs. map g (map h bs)) taken ∙ ap (map g) (map-append h (take k all) (b ∷ []))
    ∙ map-append g (map h (take k all)) (h b ∷ []))

-- whether the first error is in front of where a definition begins, or not
in_first : (start : ℕ) (starts : List ℕ) (error : Diagnostic) (errors : List Diagnostic) → is_earlier start error ≡ true
    → groups (start ∷ starts) (error ∷ errors)
    ≡ record { first = error; others = length (take_while (is_earlier start) errors) }
    ∷ groups starts (drop (length (take_while (is_earlier start) errors)) errors)
in_first start starts error errors before =
    let these : take_while (is_earlier start) (error ∷ errors) ≡ error ∷ take_while (is_earlier start) errors =
    take_while-cons (is_earlier start) error errors
    ∙ ap (λ (b : Bool). cond b (error ∷ take_while (is_earlier start) errors) []) before in
    ap (λ (xs : List Diagnostic). group_of xs ++ groups starts (drop (length xs) (error ∷ errors))) these

in_later : (start : ℕ) (starts : List ℕ) (error : Diagnostic) (errors : List Diagnostic)
    → is_earlier start error ≡ false
    → groups (start ∷ starts) (error ∷ errors) ≡ groups starts (error ∷ errors)
in_later start starts error errors after =
    let these : take_while (is_earlier start) (error ∷ errors) ≡ [] =
    take_while-cons (is_earlier start) error errors
    ∙ ap (λ (b : Bool). cond b (error ∷ take_while (is_earlier start) errors) []) after in
    ap (λ (xs : List Diagnostic). group_of xs ++ groups starts (drop (length xs) (error ∷ errors))) these

-- the first group begins with the first error
first_group : (starts : List ℕ) (error : Diagnostic) (errors : List Diagnostic)
    → (others : ℕ) × (more : List Group)
    × (groups starts (error ∷ errors) ≡ record { first = error; others = others } ∷ more)
first_group [] error errors = (length errors, [], refl)
first_group (start ∷ starts) error errors = elim (cases_Bool (is_earlier start error)) [
  | inl before ↦ (_, _, in_first start starts error errors before)
  | inr after ↦
      let later = first_group starts error errors in
      (later.0, later.1, in_later start starts error errors after ∙ later.2)
]

no_groups : (starts : List ℕ) → groups starts [] ≡ []
no_groups [] = refl
no_groups (start ∷ starts) = no_groups starts

-- the first diagnostic is about the first error
pub about_first : (starts : List ℕ) (errors : List Diagnostic) → IsAboutFirst errors (syntax_diagnostics starts errors)
about_first starts [] = ap diagnostics_on (no_groups starts)
about_first starts (error ∷ errors) =
    (let first = first_group starts error errors in
    (first.0, None, diagnostics_after first.0 error first.1, ap diagnostics_on first.2))
