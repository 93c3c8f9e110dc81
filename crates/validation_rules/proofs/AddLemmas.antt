-- How lists of violations grow.
use Rattle.std.proofs.Common.{◌≡◌, ℕ, zero, suc, ◌+◌, ◌-◌, ◌<◌, ◌≤◌, min, List, [], ◌∷◌, ◌++◌, length, map, take, drop}
use Rattle.std.proofs.Common.{get_or, arith, refl, sym, ◌∙◌, ap, ⊎_elim, append_assoc, append-nil, length-append}
use Rattle.std.proofs.Common.{length-take}
use Rattle.std.proofs.Math.ListN.{get_or-map}
use Rattle.std.proofs.lemmas.Bool.{cases_lt}
use Rattle.std.proofs.lemmas.Bool.Decides.{nat_tests}
use Rattle.std.proofs.lemmas.Grind.{flat_map-append}
use Rattle.std.proofs.lemmas.List.{length-map, take-append-drop, take_all, take_more}
use Rattle.std.proofs.lemmas.List.Elements.{filter-append}
use Rattle.std.proofs.lemmas.List.FromFn.{get_or-range_with_len, length-range_with_len}
use Rattle.std.specs.List.{flat_map, range_with_len}
use Rattle.std.specs.Prelude.{nat_le, true}
use Rattle.validation_rules.specs.Violations.{Adds, Breach, found, is_selected, selected}
use Rattle.validation_rules.specs.declared.violations.Violations.{Violations}

-- ---- one list after another
take_both : {X : Type 0} (n : ℕ) (xs ys : List X) → take n (xs ++ ys) ≡ take n xs ++ take (n - length xs) ys
take_both zero xs ys = let e : 0 - length xs ≡ 0 = omega arith in rw e refl
take_both (suc n) [] ys = let e : suc n - 0 ≡ suc n = omega arith in rw e refl
take_both (suc n) (x ∷ xs) ys = let e : suc n - length (x ∷ xs) ≡ n - length xs = omega arith in
    rw e (ap (λ zs. x ∷ zs) (take_both n xs ys))

-- what room is left
room : (most old n : ℕ) → most - (old + min (most - old) n) ≡ most - old - n
room most old n =
    ⊎_elim
    (λ (less : most - old < n). let e : min (most - old) n ≡ most - old = omega arith in rw e (omega arith))
    (λ (le : n ≤ most - old). let e : min (most - old) n ≡ n = omega arith in rw e (omega arith))
    (cases_lt (most - old) n)

take_nil : {X : Type 0} (n : ℕ) → take {A = X} n [] ≡ []
take_nil zero = refl
take_nil (suc n) = refl

pub adds_none : (v : Violations) → Adds [] v v
adds_none v = record {
  most = refl;
  selection = refl;
  are = rw (take_nil {X = Breach} (v.most - length (found v))) (sym (append-nil (found v)));
}

pub adds_then : (xs ys : List Breach) (old mid new : Violations) → Adds xs old mid → Adds ys mid new
    → Adds (xs ++ ys) old new
adds_then xs ys old mid new first second = record {
  most = second.most ∙ first.most;
  selection = second.selection ∙ first.selection;
  are =
      let n = old.most - length (found old) in
      let asked = selected old.selection in
      let long : length (found mid) ≡ length (found old) + min n (length (asked xs)) =
      ap length first.are ∙ length-append (found old) (take n (asked xs))
      ∙ ap (λ k. length (found old) + k) (length-take n (asked xs)) in
      let left : mid.most - length (found mid) ≡ n - length (asked xs) =
      rw (first.most, long) (room old.most (length (found old)) (length (asked xs))) in
      let both : asked (xs ++ ys) ≡ asked xs ++ asked ys = filter-append (is_selected old.selection) xs ys in
      second.are
      ∙ rw (left, first.are, first.selection, both, take_both n (asked xs) (asked ys))
      (append_assoc (found old) (take n (asked xs)) (take (n - length (asked xs)) (asked ys)));
}

-- a list that is full needs no more
pub adds_full : (xs ys : List Breach) (old new : Violations) → new.most ≤ length (found new) → Adds xs old new
    → Adds (xs ++ ys) old new
adds_full xs ys old new full adds = adds_then xs ys old new new adds (record {
  most = refl;
  selection = refl;
  are = let e : new.most - length (found new) ≡ 0 = omega arith in rw e (sym (append-nil (found new)));
})

pub is_full : (v : Violations) → true ≡ nat_le v.most (length v.list.items) → v.most ≤ length (found v)
is_full v full = let le : v.most ≤ length v.list.items = grind (arith, nat_tests, full) in rw length-map le

-- ---- what is listed for each of some things, in order
pub adds_next :
    {X : Type 0} (f : X → List Breach) (xs : List X) (i : ℕ) (x : X) (old mid new : Violations)
    → i < length xs → x ≡ get_or xs i x
    → Adds (flat_map f (take i xs)) old mid → Adds (f x) mid new → Adds (flat_map f (take (i + 1) xs)) old new
adds_next f xs i x old mid new below is before last =
    rw (take_more xs i x below, flat_map-append, ← is)
    (adds_then (flat_map f (take i xs)) (f x ++ []) old mid new before (rw append-nil last))

pub adds_rest :
    {X : Type 0} (f : X → List Breach) (xs : List X) (i : ℕ) (old new : Violations) → new.most ≤ length (found new)
    → Adds (flat_map f (take i xs)) old new → Adds (flat_map f xs) old new
adds_rest f xs i old new full before =
    let all : flat_map f (take i xs) ++ flat_map f (drop i xs) ≡ flat_map f xs =
    sym (flat_map-append f (take i xs) (drop i xs)) ∙ ap (flat_map f) (take-append-drop i xs) in
    rw (← all) (adds_full (flat_map f (take i xs)) (flat_map f (drop i xs)) old new full before)

pub adds_all :
    {X : Type 0} (f : X → List Breach) (xs : List X) (i : ℕ) (old new : Violations) → length xs ≤ i
    → Adds (flat_map f (take i xs)) old new
    → Adds (flat_map f xs) old new
adds_all f xs i old new end before = rw (← take_all i xs end) before

pub next_of :
    {A X : Type 0} (f : X → List Breach) (g : A → X) (xs : List A) (i : ℕ) (x : A) (old mid new : Violations)
    → i < length xs → x ≡ get_or xs i x
    → Adds (flat_map f (take i (map g xs))) old mid → Adds (f (g x)) mid new
    → Adds (flat_map f (take (i + 1) (map g xs))) old new
next_of f g xs i x old mid new below is before last =
    adds_next f (map g xs) i (g x) old mid new (rw length-map below) (ap g is ∙ sym (get_or-map g xs i x)) before last

pub next_number :
    (f : ℕ → List Breach) (n i : ℕ) (old mid new : Violations) → i < n
    → Adds (flat_map f (take i (range_with_len 0 n))) old mid → Adds (f i) mid new
    → Adds (flat_map f (take (i + 1) (range_with_len 0 n))) old new
next_number f n i old mid new below before last =
    let e : 0 + i ≡ i = omega arith in
    adds_next f (range_with_len 0 n) i i old mid new (rw length-range_with_len below)
    (sym (get_or-range_with_len 0 n i i below ∙ e)) before last

pub all_numbers :
    (f : ℕ → List Breach) (n i : ℕ) (old new : Violations) → n ≤ i
    → Adds (flat_map f (take i (range_with_len 0 n))) old new
    → Adds (flat_map f (range_with_len 0 n)) old new
all_numbers f n i old new end before = adds_all f (range_with_len 0 n) i old new (rw length-range_with_len end) before

-- ---- some of them are left
-- Whoever adds what is listed for those that are left has added what is listed for all.
abbrev pub IsLeft : {X : Type 0} → (X → List Breach) → List X → List X → Violations → Violations → Type 0
IsLeft f left all old mid = (new : Violations) → Adds (flat_map f left) mid new → Adds (flat_map f all) old new

pub left_next :
    {X : Type 0} (f : X → List Breach) (left rest all : List X) (x : X) (old mid new : Violations) → left ≡ x ∷ rest
    → IsLeft f left all old mid
    → Adds (f x) mid new → IsLeft f rest all old new
left_next f left rest all x old mid new e before now end adds =
    before end (rw e (adds_then (f x) (flat_map f rest) mid new end now adds))

pub left_ends : {X : Type 0} (f : X → List Breach) (left all : List X) (old new : Violations) → left ≡ []
    → IsLeft f left all old new → Adds (flat_map f all) old new
left_ends f left all old new e before = before new (rw e (adds_none new))
