-- The first errors of a text.
use Rattle.std.proofs.Common.{◌≡◌, ◌<◌, ◌≤◌, ◌+◌, ℕ, zero, suc, Bool, List, [], ◌∷◌, ◌++◌, append_assoc, cond, drop}
use Rattle.std.proofs.Common.{get_or, inl, inr, length, map, take, ap, refl, sym, ◌∙◌, arith}
use Rattle.std.proofs.lemmas.Bool.{cases_Bool}
use Rattle.std.proofs.lemmas.List.{drop-map, drop_more, map-append, take-map}
use Rattle.std.proofs.lemmas.List.Sums.{take_while-cons}
use Rattle.std.specs.Prelude.{take_while}
use Rattle.apollo_parser.specs.Diagnostics.{Diagnostic}
use Rattle.apollo_parser.specs.Order.{Place}
use Rattle.first_errors.specs.First.{IsFirst, firsts}
use Rattle.first_errors.specs.Groups.{Group, definition_starts, group_of, groups, is_earlier}

-- At most that number of them are kept.
pub cut : {X Y : Type 0} (h : X → Y) (most : ℕ) (items kept : List X) (all : List Y)
    → kept ≡ take most items → map h items ≡ all
    → map h kept ≡ take most all
cut h most items kept all cuts are = ap (map h) cuts ∙ sym (take-map h most items) ∙ ap (take most) are

-- The first of them that pass are as many as pass from the front on.
taken_while : {X : Type 0} (p : X → Bool) (xs : List X) → take (length (take_while p xs)) xs ≡ take_while p xs
taken_while p [] = refl
taken_while {X = X} p (x ∷ xs) = elim (cases_Bool (p x)) [
  | inl passes ↦
      let it : take_while p (x ∷ xs) ≡ x ∷ take_while p xs =
      take_while-cons p x xs ∙ ap (λ (b : Bool). cond b (x ∷ take_while p xs) []) passes in
      ap (λ (ys : List X). take (length ys) (x ∷ xs)) it ∙ ap (λ (ys : List X). x ∷ ys) (taken_while p xs) ∙ sym it
  | inr fails ↦
      let it : take_while p (x ∷ xs) ≡ [] =
      take_while-cons p x xs ∙ ap (λ (b : Bool). cond b (x ∷ take_while p xs) []) fails in
      ap (λ (ys : List X). take (length ys) (x ∷ xs)) it ∙ sym it
]

-- ---- the first of them

-- The first error of the first definition that has one is the first of all.
first_of_firsts : (starts : List ℕ) (errors : List Diagnostic) → take 1 (firsts (groups starts errors)) ≡ take 1 errors
first_of_firsts [] [] = refl
first_of_firsts [] (e ∷ es) = refl
first_of_firsts (s ∷ ss) [] = first_of_firsts ss []
first_of_firsts (s ∷ ss) (e ∷ es) =
    let all = e ∷ es in
    let shown = λ (these : List Diagnostic). take 1 (firsts (group_of these ++ groups ss (drop (length these) all))) in
    elim (cases_Bool (is_earlier s e)) [
      | inl is ↦
          let these : take_while (is_earlier s) all ≡ e ∷ take_while (is_earlier s) es =
          take_while-cons (is_earlier s) e es ∙ ap (λ (b : Bool). cond b (e ∷ take_while (is_earlier s) es) []) is in
          ap shown these
      | inr not ↦
          let these : take_while (is_earlier s) all ≡ [] =
          take_while-cons (is_earlier s) e es ∙ ap (λ (b : Bool). cond b (e ∷ take_while (is_earlier s) es) []) not in
          ap shown these ∙ first_of_firsts ss all
    ]

first_of_some : {X : Type 0} (most : ℕ) (xs : List X) → 1 ≤ most → take 1 (take most xs) ≡ take 1 xs
first_of_some zero xs some = absurd (omega (arith, some))
first_of_some (suc most) [] some = refl
first_of_some (suc most) (x ∷ xs) some = refl

-- Where at least one error may be shown, the first that is shown is the first of all.
pub first_shown : (document : Place) (errors : List Diagnostic) (most : ℕ) (shown : List Diagnostic) (more : ℕ)
    → 1 ≤ most
    → IsFirst document errors most shown more → take 1 shown ≡ take 1 errors
first_shown document errors most shown more some is =
    ap (take 1) is.first ∙ first_of_some most (firsts (groups (definition_starts document) errors)) some
    ∙ first_of_firsts (definition_starts document) errors

-- ---- all of them

-- One definition more.
pub next : {X : Type 0} (h : X → Diagnostic) (starts : List ℕ) (i d start count : ℕ) (errors these later : List X)
    (found found' whole : List Diagnostic)
    → i < length starts → get_or starts i d ≡ start → count ≡ length (take_while (is_earlier start) (map h errors))
    → these ≡ take count errors → later ≡ drop count errors → found' ≡ found ++ firsts (group_of (map h these))
    → found ++ firsts (groups (drop i starts) (map h errors)) ≡ whole
    → found' ++ firsts (groups (drop (i + 1) starts) (map h later)) ≡ whole
next h starts i d start count errors these later found found' whole within at counted taken left pushed before =
    let es = map h errors in
    let mine = take_while (is_earlier start) es in
    let of_these : map h these ≡ mine =
    ap (map h) taken ∙ sym (take-map h count errors) ∙ ap (λ (n : ℕ). take n es) counted
    ∙ taken_while (is_earlier start) es in
    let of_later : map h later ≡ drop (length mine) es =
    ap (map h) left ∙ sym (drop-map h count errors) ∙ ap (λ (n : ℕ). drop n es) counted in
    let rest = drop (i + 1) starts in
    ap (λ (l : List Diagnostic). l ++ firsts (groups rest (map h later))) pushed
    ∙ ap (λ (l : List Diagnostic). (found ++ firsts (group_of l)) ++ firsts (groups rest (map h later))) of_these
    ∙ ap (λ (l : List Diagnostic). (found ++ firsts (group_of mine)) ++ firsts (groups rest l)) of_later
    ∙ append_assoc found (firsts (group_of mine)) (firsts (groups rest (drop (length mine) es)))
    ∙ ap (λ (l : List Diagnostic). found ++ l)
    (sym (map-append (λ (g : Group). g.first) (group_of mine) (groups rest (drop (length mine) es))))
    ∙ ap (λ (s : ℕ). found ++ firsts (groups (s ∷ rest) es)) (sym at)
    ∙ ap (λ l. found ++ firsts (groups l es)) (sym (drop_more starts i d within)) ∙ before
