-- The first number of each name, when a list gets one name more.
use Rattle.std.proofs.Common.{◌≡◌, ℕ, ◌+◌, ◌≤◌, List, [], ◌∷◌, ◌++◌, length, Bool, true, false, cond}
use Rattle.std.proofs.Common.{ltb, eqb, Option, Some, None, unwrap_or, bytes_eq, arith, refl, sym, ◌∙◌, ap, not}
use Rattle.std.proofs.Common.{get_or, take, ◌<◌}
use Rattle.std.proofs.lemmas.Bool.Decides.{nat_tests}
use Rattle.std.proofs.lemmas.Grind.{common_steps}
use Rattle.std.proofs.lemmas.List.{get_or-take}
use Rattle.std.proofs.lemmas.List.{length-append}
use Rattle.std.proofs.lemmas.List.Folds.{position_or_len_push}
use Rattle.std.proofs.lemmas.List.Quantifiers.{position-Some}
use Rattle.std.proofs.lemmas.List.Sums.{fails_before_first, position_or_len_is}
use Rattle.std.proofs.lemmas.List.Sums.{prefix_len-le-length}
use Rattle.std.proofs.lemmas.Slice.Eq.{bytes_eq-Decides}
use Rattle.std.specs.List.{position, position_or_len}
use Rattle.std.specs.Option.{option_or}
use Rattle.validation_names.specs.Names.{Name, Entries, Enters, has_name, first_number, AreFirstNumbers}

-- the first n may have it at l, and else the next may
pushed : (l n : ℕ) (b : Bool) → l ≤ n
    → cond (ltb (cond (eqb l n) (n + cond b 0 1) l) (n + 1)) (Some (cond (eqb l n) (n + cond b 0 1) l)) None
    ≡ option_or (cond (ltb l n) (Some l) None) (cond b (Some n) None)
pushed l n b le = grind (arith, nat_tests)

no_more : {X : Type 0} (p : X → Bool) (xs : List X) → position_or_len p xs ≤ length xs
no_more p xs = prefix_len-le-length (λ x. not (p x)) xs

position_push : {X : Type 0} (p : X → Bool) (xs : List X) (y : X)
    → position p (xs ++ y ∷ []) ≡ option_or (position p xs) (cond (p y) (Some (length xs)) None)
position_push p xs y =
    let longer : length (xs ++ y ∷ []) ≡ length xs + 1 = length-append xs (y ∷ []) in
    rw (position_or_len_push p xs y, longer) (pushed (position_or_len p xs) (length xs) (p y) (no_more p xs))

none_else : {X : Type 0} (o : Option X) → option_or o None ≡ o
none_else None = refl
none_else (Some x) = refl

or_last : {X : Type 0} (o : Option X) (x : X) → Some (unwrap_or o x) ≡ option_or o (Some x)
or_last None x = refl
or_last (Some y) x = refl

-- one more that has no name
pub unnamed_more : (entries : Entries ℕ) (names : List (Option Name)) → AreFirstNumbers entries names
    → AreFirstNumbers entries (names ++ None ∷ [])
unnamed_more entries names are name =
    are name ∙ sym (position_push (has_name name) names None ∙ none_else (first_number names name))

-- one more with a name
pub named_more :
    (old new : Entries ℕ) (names : List (Option Name)) (name : Name) (number : ℕ) → AreFirstNumbers old names
    → number ≡ length names → Enters old new name number → AreFirstNumbers new (names ++ Some name ∷ [])
named_more old new names name number are is enters q =
    rw (enters q, is, are name, are q, position_push (has_name q) names (Some name)) (entered (bytes_eq name q) refl)
  where
    same : bytes_eq name q ≡ true → first_number names name ≡ first_number names q
    same e = ap (first_number names) ((bytes_eq-Decides name q).0 e)

    entered : (b : Bool) → bytes_eq name q ≡ b
        → cond b (Some (unwrap_or (first_number names name) (length names))) (first_number names q)
        ≡ option_or (first_number names q) (cond b (Some (length names)) None)
    entered true e = rw (same e) (or_last (first_number names q) (length names))
    entered false e = sym (none_else (first_number names q))

-- ---- a first number among the first n
none_at : {X : Type 0} (p : X → Bool) (xs : List X) (d : X) → position p xs ≡ None → (k : ℕ) → k < length xs
    → p (get_or xs k d) ≡ false
none_at p xs d none k below = fails_before_first p xs k d (at_end (ltb (position_or_len p xs) (length xs)) refl)
  where
    at_end : (b : Bool) → ltb (position_or_len p xs) (length xs) ≡ b → k < position_or_len p xs
    at_end true e = absurd (let h : Some (position_or_len p xs) ≡ None = rw e at none in cc)
    at_end false e = grind (arith, nat_tests, e)

is_position :
    {X : Type 0} (p : X → Bool) (xs : List X) (i : ℕ) (d : X) → i < length xs → p (get_or xs i d) ≡ true
    → ((k : ℕ) → k < i → p (get_or xs k d) ≡ false) → position p xs ≡ Some i
is_position p xs i d below passes none =
    let e = position_or_len_is p xs i d (omega arith) none (λ _. passes) in
    let l : ltb i (length xs) ≡ true = grind (arith, nat_tests) in
    rw (e, l) refl

abbrev pub name_at : List (Option Name) → ℕ → Option Name
name_at names k = get_or names k None

-- the first number among the first n is the first of all
pub first_in_front :
    (names : List (Option Name)) (n i : ℕ) (name : Name) → n ≤ length names → first_number (take n names) name ≡ Some i
    → (i < n) × (first_number names name ≡ Some i)
first_in_front names n i name le is =
    let long : length (take n names) ≡ n = grind (arith, common_steps) in
    let at = position-Some (has_name name) (take n names) i None is in
    let below : i < n = rw long at at.0 in
    let passes : has_name name (name_at names i) ≡ true = rw (get_or-take n names i None below) at at.1 in (
      below,
      is_position (has_name name) names i None (omega arith) passes
          (λ k less. let l : k < n = omega arith in rw (get_or-take n names k None l) at (at.2 k less)),
    )

-- none of the first n has the name
pub none_in_front :
    (names : List (Option Name)) (n : ℕ) (name : Name) → n ≤ length names → first_number (take n names) name ≡ None
    → (k : ℕ) → k < n → has_name name (name_at names k) ≡ false
none_in_front names n name le none k below =
    let long : length (take n names) ≡ n = grind (arith, common_steps) in
    rw (get_or-take n names k None below) at (none_at (has_name name) (take n names) None none k (rw long below))

-- the name at the first number is equal
pub first_has_name : (names : List (Option Name)) (i : ℕ) (name : Name) → first_number names name ≡ Some i
    → has_name name (name_at names i) ≡ true
first_has_name names i name is = (position-Some (has_name name) names i None is).1
