-- Lists that are picked from, with one item more.
use Rattle.std.proofs.Common.{◌≡◌, ℕ, zero, suc, ◌+◌, ◌<◌, List, [], ◌∷◌, ◌++◌, length, map, take, get_or, Bool, true}
use Rattle.std.proofs.Common.{false, cond, Option, Some, None, refl, sym, ◌∙◌, ap, append-nil, arith}
use Rattle.std.proofs.lemmas.List.{map-append, take_more}
use Rattle.std.proofs.lemmas.List.Concat.{flat_map-append}
use Rattle.std.proofs.lemmas.List.Elements.{filter-append}
use Rattle.std.proofs.lemmas.List.Folds.{find-append}
use Rattle.std.specs.List.{filter, find, flat_map, list_any}
use Rattle.std.specs.Option.{option_or}
use Rattle.std.specs.Prelude.{◌||◌}

module _ {A B : Type 0} (g : A → B) (xs : List A) (n : ℕ) (x : A) (below : n < length xs) (is : x ≡ get_or xs n x) where
  pub mapped_more : map g (take (n + 1) xs) ≡ map g (take n xs) ++ g x ∷ []
  mapped_more = rw (take_more xs n x below, map-append, ← is) refl

  pub kept_more : (p : B → Bool)
      → filter p (map g (take (n + 1) xs)) ≡ filter p (map g (take n xs)) ++ cond (p (g x)) (g x ∷ []) []
  kept_more p = ap (filter p) mapped_more ∙ filter-append p (map g (take n xs)) (g x ∷ [])

  chosen : {C : Type 0} (f : B → List C) (b : Bool) → flat_map f (cond b (g x ∷ []) []) ≡ cond b (f (g x)) []
  chosen f true = append-nil (f (g x))
  chosen f false = refl

  pub picked_more : {C : Type 0} (p : B → Bool) (f : B → List C)
      → flat_map f (filter p (map g (take (n + 1) xs)))
      ≡ flat_map f (filter p (map g (take n xs))) ++ cond (p (g x)) (f (g x)) []
  picked_more p f =
      ap (flat_map f) (kept_more p)
      ∙ flat_map-append f (filter p (map g (take n xs))) (cond (p (g x)) (g x ∷ []) [])
      ∙ ap (λ ys. flat_map f (filter p (map g (take n xs))) ++ ys) (chosen f (p (g x)))

-- ---- the first of a list
pick : {B : Type 0} (b : Bool) (x r : B) (before after : Option B) → cond b (Some x) before ≡ None
    → (before ≡ None → Some r ≡ after) → Some r ≡ cond b (Some x) after
pick true x r before after none rest = absurd (let e : Some x ≡ None = none in cc)
pick false x r before after none rest = rest none

pub found_at :
    {A B : Type 0} (p : B → Bool) (g : A → B) (xs : List A) (n : ℕ) (x : A) → n < length xs → x ≡ get_or xs n x
    → p (g x) ≡ true → find p (map g (take n xs)) ≡ None → Some (g x) ≡ find p (map g xs)
found_at p g [] n x below is t none = absurd (omega arith)
found_at p g (y ∷ ys) zero x below is t none =
    let e : p (g y) ≡ true = ap (λ z. p (g z)) (sym is) ∙ t in rw e (ap (λ z. Some (g z)) is)
found_at p g (y ∷ ys) (suc n) x below is t none =
    pick (p (g y)) (g y) (g x) (find p (map g (take n ys))) (find p (map g ys)) none
    (λ rest. found_at p g ys n x (omega arith) is t rest)

pub none_more :
    {A B : Type 0} (p : B → Bool) (g : A → B) (xs : List A) (n : ℕ) (x : A) → n < length xs → x ≡ get_or xs n x
    → p (g x) ≡ false → find p (map g (take n xs)) ≡ None → find p (map g (take (n + 1) xs)) ≡ None
none_more p g xs n x below is f none =
    ap (find p) (mapped_more g xs n x below is) ∙ find-append p (map g (take n xs)) (g x ∷ [])
    ∙ ap (λ o. option_or o (find p (g x ∷ []))) none ∙ ap (λ b. cond b (Some (g x)) None) f

or_right : (a b : Bool) → true ≡ b → true ≡ (a || b)
or_right true b e = refl
or_right false b e = e

pub any_at :
    {A B : Type 0} (p : B → Bool) (g : A → B) (xs : List A) (n : ℕ) (x : A) → n < length xs → x ≡ get_or xs n x
    → p (g x) ≡ true → true ≡ list_any p (map g xs)
any_at p g [] n x below is t = absurd (omega arith)
any_at p g (y ∷ ys) zero x below is t = let e : p (g y) ≡ true = ap (λ z. p (g z)) (sym is) ∙ t in rw e refl
any_at p g (y ∷ ys) (suc n) x below is t =
    or_right (p (g y)) (list_any p (map g ys)) (any_at p g ys n x (omega arith) is t)
