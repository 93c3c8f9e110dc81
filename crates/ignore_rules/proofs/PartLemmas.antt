-- The parts of a text, one after another.
use Rattle.std.proofs.Common.{◌≡◌, ℕ, suc, ◌+◌, ◌<◌, ◌≤◌, Bool, List, [], ◌∷◌, length, take, drop, Option, Some, None}
use Rattle.std.proofs.Common.{Bor, refl, ap, arith, inl, inr, subst, ltb}
use Rattle.std.proofs.lemmas.Bool.{cases_Bool, ltb-true, ltb-false}
use Rattle.std.proofs.lemmas.List.Splits.{slice_split_first}
use Rattle.std.specs.List.{position, position_or_len, slice_split, onto_first}
use Rattle.std.specs.Prelude.{◌==◌, MatchOption}
use Rattle.ignore_rules.specs.Parts.{parts}

-- what is left of a text, if anything is, and its parts
abbrev pub parts_left : ℕ → Option (Bor (List ℕ)) → List (List ℕ)
parts_left b None = []
parts_left b (Some text) = parts b text.now

abbrev pub size_left : Option (Bor (List ℕ)) → ℕ
size_left None = 0
size_left (Some text) = suc (length text.now)

-- a text without such a byte is one part
whole : (p : ℕ → Bool) (xs : List ℕ) → length xs ≤ position_or_len p xs → slice_split p xs ≡ xs ∷ []
whole p [] none = refl
whole p (x ∷ xs) none =
    elim (cases_Bool (p x)) [
      | inl here ↦ absurd (let e = rw here at none in omega arith)
      | inr past ↦ rw past (ap (onto_first x) (whole p xs (let e = rw past at none in omega arith)))
    ]

-- the part before the first such byte
pub parts_first : (b : ℕ) (text : List ℕ) (end : ℕ) → position (λ c. c == b) text ≡ Some end
    → (end < length text) × (parts b text ≡ take end text ∷ parts b (drop (end + 1) text))
parts_first b text end is =
    let p : ℕ → Bool = λ c. c == b in
    elim (cases_Bool (ltb (position_or_len p text) (length text))) [
      | inl here ↦
          let same : position_or_len p text ≡ end = cc (rw here at is) in
          subst (λ (n : ℕ). (n < length text) × (parts b text ≡ take n text ∷ parts b (drop (n + 1) text))) same
          (ltb-true _ _ here, slice_split_first p text 0 (ltb-true _ _ here))
      | inr past ↦ cc (rw past at is)
    ]

pub parts_whole : (b : ℕ) (text : List ℕ) → position (λ c. c == b) text ≡ None → parts b text ≡ text ∷ []
parts_whole b text is =
    let p : ℕ → Bool = λ c. c == b in
    elim (cases_Bool (ltb (position_or_len p text) (length text))) [
      | inl here ↦ cc (rw here at is)
      | inr past ↦ whole p text (ltb-false _ _ past)
    ]

-- the first part, and the parts that are left
pub parts_cut : (b : ℕ) (text first : List ℕ) (rest : Option (Bor (List ℕ)))
    → MatchOption rest (parts b text ≡ first ∷ [])
    (λ r. (parts b text ≡ first ∷ parts b r.now) × (length r.now < length text))
    → parts b text ≡ first ∷ parts_left b rest
parts_cut b text first None is = is
parts_cut b text first (Some rest) is = is.0
