-- Lists that are filtered, one item more.
use Rattle.std.proofs.Common.{◌≡◌, ℕ, zero, suc, ◌+◌, ◌<◌, List, [], ◌∷◌, ◌++◌, length, map, take}
use Rattle.std.proofs.Common.{get_or, Bool, true, false, cond, Option, Some, None, arith, refl, sym, ◌∙◌, ap}
use Rattle.std.proofs.lemmas.List.{take_more, map-append}
use Rattle.std.proofs.lemmas.List.Elements.{filter-append, filter_map-append}
use Rattle.std.specs.List.{Contains, cons_option, filter, filter_map, range_with_len}

pub filter_map_more :
    {A B C : Type 0} (f : B → Option C) (g : A → B) (xs : List A) (n : ℕ) (x : A) → n < length xs → x ≡ get_or xs n x
    → filter_map f (map g (take (n + 1) xs)) ≡ filter_map f (map g (take n xs)) ++ cons_option (f (g x)) []
filter_map_more f g xs n x below is = rw (take_more xs n x below, map-append, filter_map-append, ← is)

pub filter_map_same : {A B : Type 0} (f g : A → Option B) → ((x : A) → f x ≡ g x) → (xs : List A)
    → filter_map f xs ≡ filter_map g xs
filter_map_same f g same [] = refl
filter_map_same f g same (x ∷ xs) = rw (same x, filter_map_same f g same xs)

later : {A : Type 0} (x y : A) (xs : List A) → Contains xs y → Contains (x ∷ xs) y
later x y xs (k, below, is) = (suc k, omega arith, is)

first_or_later :
    {A B : Type 0} (f : A → Option B) (x : A) (xs : List A) (y : B) (o : Option B) → f x ≡ o
    → (Contains (filter_map f xs) y → (z : A) × Contains xs z × (f z ≡ Some y))
    → Contains (cons_option o (filter_map f xs)) y
    → (z : A) × Contains (x ∷ xs) z × (f z ≡ Some y)
first_or_later f x xs y None e rest there = let at = rest there in (at.0, later x at.0 xs at.1, at.2)
first_or_later f x xs y (Some z) e rest (zero, below, is) = (x, (0, omega arith, refl), e ∙ ap Some is)
first_or_later f x xs y (Some z) e rest (suc k, below, is) = let at = rest (k, omega arith, is) in
    (at.0, later x at.0 xs at.1, at.2)

pub in_filter_map : {A B : Type 0} (f : A → Option B) (xs : List A) (y : B) → Contains (filter_map f xs) y
    → (x : A) × Contains xs x × (f x ≡ Some y)
in_filter_map f [] y (k, below, is) = absurd (omega arith)
in_filter_map f (x ∷ xs) y there = first_or_later f x xs y (f x) refl (in_filter_map f xs y) there

pub range_more : (a n : ℕ) → range_with_len a (suc n) ≡ range_with_len a n ++ (a + n) ∷ []
range_more a zero = let e : a ≡ a + 0 = omega arith in rw (← e)
range_more a (suc n) = let e : a + 1 + n ≡ a + suc n = omega arith in
    ap (λ xs. a ∷ xs) (rw (← e) (range_more (a + 1) n))

filter_one : (p : ℕ → Bool) (n : ℕ) (b : Bool) → p n ≡ b → filter p (n ∷ []) ≡ cond b (n ∷ []) []
filter_one p n true e = rw e refl
filter_one p n false e = rw e refl

pub filter_range_more :
    (p : ℕ → Bool) (n : ℕ) (b : Bool) → p n ≡ b
    → filter p (range_with_len 0 (n + 1)) ≡ filter p (range_with_len 0 n) ++ cond b (n ∷ []) []
filter_range_more p n b e =
    let same : 0 + n ≡ n = omega arith in
    let more : range_with_len 0 (suc n) ≡ range_with_len 0 n ++ n ∷ [] =
    range_more 0 n ∙ ap (λ k. range_with_len 0 n ++ k ∷ []) same in
    let one : n + 1 ≡ suc n = omega arith in
    ap (λ k. filter p (range_with_len 0 k)) one ∙ ap (filter p) more ∙ filter-append p (range_with_len 0 n) (n ∷ [])
    ∙ ap (λ xs. filter p (range_with_len 0 n) ++ xs) (filter_one p n b e)

pub in_range : (a n k : ℕ) → Contains (range_with_len a n) k → k < a + n
in_range a zero k (i, below, is) = absurd (omega arith)
in_range a (suc n) k (zero, below, is) = let e : a ≡ k = is in omega arith
in_range a (suc n) k (suc i, below, is) = let l = in_range (a + 1) n k (i, omega arith, is) in omega arith

pub range_has : (a n k : ℕ) → k < n → Contains (range_with_len a n) (a + k)
range_has a zero k below = absurd (omega arith)
range_has a (suc n) zero below = (0, omega arith, let e : a ≡ a + 0 = omega arith in e)
range_has a (suc n) (suc k) below =
    let e : a + 1 + k ≡ a + suc k = omega arith in
    later a (a + suc k) (range_with_len (a + 1) n) (rw (← e) (range_has (a + 1) n k (omega arith)))

kept_or_later :
    {A : Type 0} (p : A → Bool) (y : A) (ys : List A) (x : A) (b : Bool) → p y ≡ b
    → (Contains (filter p ys) x → Contains ys x × (p x ≡ true))
    → Contains (cond b (y ∷ filter p ys) (filter p ys)) x → Contains (y ∷ ys) x × (p x ≡ true)
kept_or_later p y ys x false e rest there = let at = rest there in (later y x ys at.0, at.1)
kept_or_later p y ys x true e rest (zero, below, is) = ((0, omega arith, is), ap p (sym is) ∙ e)
kept_or_later p y ys x true e rest (suc k, below, is) = let at = rest (k, omega arith, is) in (later y x ys at.0, at.1)

pub in_filter : {A : Type 0} (p : A → Bool) (xs : List A) (x : A) → Contains (filter p xs) x
    → Contains xs x × (p x ≡ true)
in_filter p [] x (k, below, is) = absurd (omega arith)
in_filter p (y ∷ ys) x there = kept_or_later p y ys x (p y) refl (in_filter p ys x) there

behind : {A : Type 0} (y x : A) (ys : List A) (b : Bool) → Contains ys x → Contains (cond b (y ∷ ys) ys) x
behind y x ys false there = there
behind y x ys true there = later y x ys there

pub filter_has : {A : Type 0} (p : A → Bool) (xs : List A) (x : A) → Contains xs x → p x ≡ true
    → Contains (filter p xs) x
filter_has p [] x (k, below, is) passes = absurd (omega arith)
filter_has p (y ∷ ys) x (zero, below, is) passes = let e : p y ≡ true = ap p is ∙ passes in rw e (0, omega arith, is)
filter_has p (y ∷ ys) x (suc k, below, is) passes =
    behind y x (filter p ys) (p y) (filter_has p ys x (k, omega arith, is) passes)
