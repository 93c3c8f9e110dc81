-- Violations that are sorted are breaches that are sorted, and there is one list of breaches that is sorted and stable.
use Rattle.std.proofs.Common.{◌≡◌, ◌⊎◌, ℕ, zero, suc, ◌+◌, ◌<◌, List, [], ◌∷◌, length, map, get_or, Bool, true, false}
use Rattle.std.proofs.Common.{cond, arith, refl, sym, subst, ap, ◌∙◌, inl, inr, ⊎_elim}
use Rattle.std.proofs.lemmas.Cmp.{nat_cmp_total, on_total, then_total, tied_itself}
use Rattle.std.proofs.lemmas.List.{get_or-map, length-map}
use Rattle.std.proofs.lemmas.List.MinMax.{ranks_by}
use Rattle.std.proofs.lemmas.List.Sorted.{Contains-permutation, IsPermutation-sym, sorted_far}
use Rattle.std.specs.Cmp.{IsTotalOrder}
use Rattle.std.specs.Cmp.Lexicographic.{options_total}
use Rattle.std.specs.List.{Contains, filter}
use Rattle.std.specs.List.Sorted.{IsSortedBy, IsSortedByKey, IsStableByKey, ties}
use Rattle.std.specs.Ordering.{is_lt}
use Rattle.validation_names.proofs.Lists.{in_filter}
use Rattle.validation_rules.specs.TextOrder.{IsInTextOrder, SiteKey, TextKey, comes_before, site_order, text_key}
use Rattle.validation_rules.specs.TextOrder.{text_order}
use Rattle.validation_rules.specs.Violations.{Breach, as_breach}
use Rattle.validation_rules.specs.declared.violations.Violation.{Violation}

-- ---- the order
site_order_total : IsTotalOrder site_order
site_order_total = then_total (on_total (λ (s : SiteKey). s.0) nat_cmp_total)
    (on_total (λ (s : SiteKey). s.1) nat_cmp_total)

pub text_order_total : IsTotalOrder text_order
text_order_total =
    then_total (then_total (on_total (λ (t : TextKey). t.0) site_order_total)
    (on_total (λ (t : TextKey). t.1) nat_cmp_total))
    (on_total (λ (t : TextKey). t.2) (options_total site_order_total))

not_itself : (b : Breach) → comes_before b b ≡ false
not_itself b = ap is_lt (tied_itself text_order_total (text_key b))

itself_ties : (b : Breach) → ties comes_before b b ≡ true
itself_ties b = rw (not_itself b) refl

-- ---- violations that are sorted are breaches that are sorted
key_of : Violation → TextKey
key_of v = text_key (as_breach v)

pub sorted_breaches : (xs : List Violation) → IsSortedByKey (λ (v : Violation). text_key (as_breach v)) text_order xs
    → IsSortedBy comes_before (map as_breach xs)
sorted_breaches [] sorted k d from below = absurd (omega arith)
sorted_breaches (x ∷ xs) sorted k d from below =
    let l = length-map (x ∷ xs) as_breach in
    let later = get_or-map as_breach (x ∷ xs) (k + 1) x d (omega arith) in
    let earlier = get_or-map as_breach (x ∷ xs) k x d (omega arith) in
    rw (later, earlier) (sorted k x from (omega arith))

-- those that tie, among violations and among breaches
one_kept : (v x : Violation) (xs : List Violation) (b : Bool) → ties comes_before (as_breach v) (as_breach x) ≡ b
    → filter (ties comes_before (as_breach v)) (map as_breach xs)
    ≡ map as_breach (filter (λ y. ties comes_before (as_breach v) (as_breach y)) xs)
    → cond b (as_breach x ∷ filter (ties comes_before (as_breach v)) (map as_breach xs))
    (filter (ties comes_before (as_breach v)) (map as_breach xs))
    ≡ map as_breach (cond b (x ∷ filter (λ y. ties comes_before (as_breach v) (as_breach y)) xs)
    (filter (λ y. ties comes_before (as_breach v) (as_breach y)) xs))
one_kept v x xs true e same = ap (λ bs. as_breach x ∷ bs) same
one_kept v x xs false e same = same

filter_breaches : (v : Violation) (xs : List Violation)
    → filter (ties comes_before (as_breach v)) (map as_breach xs)
    ≡ map as_breach (filter (λ y. ties comes_before (as_breach v) (as_breach y)) xs)
filter_breaches v [] = refl
filter_breaches v (x ∷ xs) = one_kept v x xs (ties comes_before (as_breach v) (as_breach x)) refl (filter_breaches v xs)

violation_of : (xs : List Violation) (b : Breach) → Contains (map as_breach xs) b → (v : Violation) × (as_breach v ≡ b)
violation_of [] b (k, below, is) = absurd (omega arith)
violation_of (x ∷ xs) b (zero, below, is) = (x, is)
violation_of (x ∷ xs) b (suc k, below, is) = violation_of xs b (k, omega arith, is)

pub stable_breaches : (old new : List Violation)
    → IsStableByKey (λ (v : Violation). text_key (as_breach v)) text_order old new → (b : Breach)
    → Contains (map as_breach old) b
    → filter (ties comes_before b) (map as_breach new) ≡ filter (ties comes_before b) (map as_breach old)
stable_breaches old new stable b there =
    let (v, is) = violation_of old b there in
    rw (← is) (filter_breaches v new ∙ ap (map as_breach) (stable v) ∙ sym (filter_breaches v old))

-- ---- one list
-- none of a list comes before an earlier one
abbrev IsFarSorted : List Breach → Type 0
IsFarSorted bs = (i j : ℕ) (d : Breach) → i < j → j < length bs → comes_before (get_or bs j d) (get_or bs i d) ≡ false

far_sorted : (bs : List Breach) → IsSortedBy comes_before bs → IsFarSorted bs
far_sorted bs sorted i j d less below =
    sorted_far comes_before (ranks_by text_order_total text_key) bs sorted i j d (omega arith) below

far_tail : (b : Breach) (bs : List Breach) → IsFarSorted (b ∷ bs) → IsFarSorted bs
far_tail b bs far i j d less below = far (suc i) (suc j) d (omega arith) (omega arith)

-- none that is later comes before the first
far_first : (b : Breach) (bs : List Breach) (x : Breach) → IsFarSorted (b ∷ bs) → Contains bs x
    → comes_before x b ≡ false
far_first b bs x far (k, below, is) = let e : get_or bs k x ≡ x = is in
    rw e at (far 0 (suc k) x (omega arith) (omega arith))

-- the same breaches tie with each that is in one of the lists
abbrev TieAlike : List Breach → List Breach → Type 0
TieAlike xs ys = (b : Breach) → Contains xs b ⊎ Contains ys b
    → filter (ties comes_before b) xs ≡ filter (ties comes_before b) ys

first_same : (x y : Breach) (xs ys : List Breach) → x ∷ xs ≡ y ∷ ys → x ≡ y
first_same x y xs ys e = cc

rest_same : (x y : Breach) (xs ys : List Breach) → x ∷ xs ≡ y ∷ ys → xs ≡ ys
rest_same x y xs ys e = cc

kept_first : (b x : Breach) (xs : List Breach) → ties comes_before b x ≡ true
    → filter (ties comes_before b) (x ∷ xs) ≡ x ∷ filter (ties comes_before b) xs
kept_first b x xs e = rw e refl

left_first : (b x : Breach) (xs : List Breach) → ties comes_before b x ≡ false
    → filter (ties comes_before b) (x ∷ xs) ≡ filter (ties comes_before b) xs
left_first b x xs e = rw e refl

first_has : (b : Breach) (bs : List Breach) → Contains (b ∷ bs) b
first_has b bs = (0, omega arith, refl)

-- the head of one list is the head of the other, or behind it there
head_or_behind : (x y : Breach) (xs ys : List Breach) (b : Bool) → ties comes_before x y ≡ b
    → filter (ties comes_before x) (x ∷ xs) ≡ filter (ties comes_before x) (y ∷ ys)
    → (x ≡ y) ⊎ Contains ys x
head_or_behind x y xs ys true e same =
    inl (first_same x y (filter (ties comes_before x) xs) (filter (ties comes_before x) ys)
    (sym (kept_first x x xs (itself_ties x)) ∙ same ∙ kept_first x y ys e))
head_or_behind x y xs ys false e same =
    let has : Contains (filter (ties comes_before x) ys) x =
    subst (λ bs. Contains bs x) (sym (kept_first x x xs (itself_ties x)) ∙ same ∙ left_first x y ys e)
    (first_has x (filter (ties comes_before x) xs)) in
    inr (in_filter (ties comes_before x) ys x has).0

no_tie : (x y : Breach) → comes_before x y ≡ false → comes_before y x ≡ false → ties comes_before x y ≡ true
no_tie x y one other = rw (one, other) refl

same_head : (x y : Breach) (xs ys : List Breach) → IsFarSorted (x ∷ xs) → IsFarSorted (y ∷ ys)
    → TieAlike (x ∷ xs) (y ∷ ys) → x ≡ y
same_head x y xs ys far fars alike =
    ⊎_elim
    (λ (e : x ≡ y). e)
    (λ (x_behind : Contains ys x).
    ⊎_elim
    (λ (e : y ≡ x). sym e)
    (λ (y_behind : Contains xs y).
    let tie = no_tie x y (far_first y ys x fars x_behind) (far_first x xs y far y_behind) in
    first_same x y (filter (ties comes_before x) xs) (filter (ties comes_before x) ys)
    (sym (kept_first x x xs (itself_ties x)) ∙ of_x ∙ kept_first x y ys tie))
    (head_or_behind y x ys xs (ties comes_before y x) refl (sym of_y)))
    (head_or_behind x y xs ys (ties comes_before x y) refl of_x)
  where
    of_x : filter (ties comes_before x) (x ∷ xs) ≡ filter (ties comes_before x) (y ∷ ys)
    of_x = alike x (inl (0, omega arith, refl))

    of_y : filter (ties comes_before y) (x ∷ xs) ≡ filter (ties comes_before y) (y ∷ ys)
    of_y = alike y (inr (0, omega arith, refl))

tail_of : (b x : Breach) (xs ys : List Breach) (t : Bool) → ties comes_before b x ≡ t
    → filter (ties comes_before b) (x ∷ xs) ≡ filter (ties comes_before b) (x ∷ ys)
    → filter (ties comes_before b) xs ≡ filter (ties comes_before b) ys
tail_of b x xs ys true e same =
    rest_same x x (filter (ties comes_before b) xs) (filter (ties comes_before b) ys)
    (sym (kept_first b x xs e) ∙ same ∙ kept_first b x ys e)
tail_of b x xs ys false e same = sym (left_first b x xs e) ∙ same ∙ left_first b x ys e

behind : (x b : Breach) (xs : List Breach) → Contains xs b → Contains (x ∷ xs) b
behind x b xs (k, below, is) = (suc k, omega arith, is)

tail_alike : (x y : Breach) (xs ys : List Breach) → x ≡ y → TieAlike (x ∷ xs) (y ∷ ys) → TieAlike xs ys
tail_alike x y xs ys e alike b there =
    tail_of b x xs ys (ties comes_before b x) refl
    (rw (← e) at
    (alike b (⊎_elim (λ (a : Contains xs b). inl (behind x b xs a))
    (λ (c : Contains ys b). inr (behind y b ys c)) there)))

one_sorted : (xs ys : List Breach) → IsFarSorted xs → IsFarSorted ys → TieAlike xs ys → xs ≡ ys
one_sorted [] [] far fars alike = refl
one_sorted [] (y ∷ ys) far fars alike =
    let e : [] ≡ y ∷ filter (ties comes_before y) ys =
    alike y (inr (0, omega arith, refl)) ∙ kept_first y y ys (itself_ties y) in
    absurd (cc)
one_sorted (x ∷ xs) [] far fars alike =
    let e : x ∷ filter (ties comes_before x) xs ≡ [] =
    sym (kept_first x x xs (itself_ties x)) ∙ alike x (inl (0, omega arith, refl)) in
    absurd (cc)
one_sorted (x ∷ xs) (y ∷ ys) far fars alike =
    let e = same_head x y xs ys far fars alike in
    let rest = one_sorted xs ys (far_tail x xs far) (far_tail y ys fars) (tail_alike x y xs ys e alike) in
    λ i. e i ∷ rest i

pub one_order : (breaches first second : List Breach) → IsInTextOrder breaches first
    → IsInTextOrder breaches second → first ≡ second
one_order breaches first second so also =
    one_sorted first second (far_sorted first so.sorted) (far_sorted second also.sorted)
    (λ b there.
    let inside : Contains breaches b =
    ⊎_elim
    (λ (a : Contains first b). Contains-permutation first breaches b (IsPermutation-sym breaches first so.same) a)
    (λ (c : Contains second b). Contains-permutation second breaches b (IsPermutation-sym breaches second also.same) c)
    there in
    so.stable b inside ∙ sym (also.stable b inside))
