-- One vertex of a row more.
use Rattle.std.proofs.Common.{◌≡◌, ◌≢◌, ℕ, ◌<◌, ◌+◌, List, [], ◌∷◌, ◌++◌, length, get_or, set, Bool, true, false}
use Rattle.std.proofs.Common.{not, cond, arith, sym, ◌∙◌, refl, inl}
use Rattle.std.proofs.Common.{inr, ⊎_elim, append_assoc, length-append, length-set, get_or-set_same, get_or-set_other}
use Rattle.std.proofs.lemmas.Bool.{cases_eq}
use Rattle.std.proofs.lemmas.List.{get_or_default}
use Rattle.std.proofs.lemmas.List.Elements.{Contains-append_cases, Contains-append_left, Contains-get_or, Contains-push}
use Rattle.std.proofs.lemmas.List.Elements.{Contains-push_cases}
use Rattle.std.proofs.lemmas.List.Quantifiers.{all_pairs_push}
use Rattle.std.proofs.lemmas.List.Sums.{sum_by-set}
use Rattle.std.specs.List.{Contains}
use Rattle.directed_graph.specs.Marks.{AreMarked, IsMarked, MarksAll, Unmarks, unmarked}

pub marks_old :
    (row : List ℕ) (vertex : ℕ) (old new : List Bool) (found_old found_new : List ℕ) → IsMarked new vertex
    → MarksAll row old new found_old found_new
    → MarksAll (row ++ vertex ∷ []) old new found_old found_new
marks_old row vertex old new found_old found_new is so = record {
  as_many = so.as_many;
  kept = so.kept;
  marked = λ p there. ⊎_elim (λ (before : Contains row p). so.marked p before) (λ (e : vertex ≡ p). rw (← e) is)
      (Contains-push_cases row vertex p there);
  added = so.added;
  found = so.found;
  from_row = λ p there. Contains-append_left row (vertex ∷ []) p (so.from_row p there);
  no_others = so.no_others;
  budget = so.budget;
  distinct = so.distinct;
}

-- what was found before and what is found now is marked
pub all_marked :
    (row : List ℕ) (old new : List Bool) (found_old found_new : List ℕ) → MarksAll row old new found_old found_new
    → AreMarked old found_old
    → AreMarked new found_new
all_marked row old new found_old found_new so were vertex there =
    ⊎_elim
    (λ (was : Contains found_old vertex). so.kept vertex (were vertex was))
    (λ (is : Contains so.added vertex). so.marked vertex (so.from_row vertex is))
    (Contains-append_cases found_old so.added vertex (rw so.found at there))

marked_after : (marks : List Bool) (vertex p : ℕ) → vertex < length marks → IsMarked marks p
    → IsMarked (set marks vertex true) p
marked_after marks vertex p inside is =
    ⊎_elim (λ (e : p ≡ vertex). rw (e, get_or-set_same) refl)
    (λ (ne : p ≢ vertex). rw get_or-set_other is) (cases_eq p vertex)

marked_before : (marks : List Bool) (vertex p : ℕ) → p ≢ vertex → IsMarked (set marks vertex true) p → IsMarked marks p
marked_before marks vertex p ne is = rw get_or-set_other at is

one_less : (marks : List Bool) (vertex : ℕ) → vertex < length marks → get_or marks vertex false ≡ false
    → unmarked (set marks vertex true) + 1 ≡ unmarked marks
one_less marks vertex inside is =
    let e = sum_by-set (λ (b : Bool). cond (not b) 1 0) marks vertex true false inside in
    let f = rw is at e in
    omega (arith, f)

-- what an index reads
pub read_false : (marks : List Bool) (vertex : ℕ) (read : Bool) → read ≡ get_or marks vertex read → read ≡ false
    → get_or marks vertex false ≡ false
read_false marks vertex true at is = absurd (cc)
read_false marks vertex false at is = sym at

pub read_true : (marks : List Bool) (vertex : ℕ) (read : Bool) → vertex < length marks → read ≡ get_or marks vertex read
    → read ≡ true → IsMarked marks vertex
read_true marks vertex false inside at is = absurd (cc)
read_true marks vertex true inside at is = get_or_default marks vertex false true inside ∙ sym at

-- it was not, and is now
pub marks_new :
    (row : List ℕ) (vertex : ℕ) (old new : List Bool) (found_old found_new : List ℕ) → vertex < length new
    → get_or new vertex false ≡ false
    → MarksAll row old new found_old found_new
    → MarksAll (row ++ vertex ∷ []) old (set new vertex true) found_old (found_new ++ vertex ∷ [])
marks_new row vertex old new found_old found_new inside is so = record {
  as_many = length-set new vertex true ∙ so.as_many;
  kept = λ p m. marked_after new vertex p inside (so.kept p m);
  marked = λ p there.
      ⊎_elim
      (λ (before : Contains row p). marked_after new vertex p inside (so.marked p before))
      (λ (e : vertex ≡ p). rw (← e, get_or-set_same) refl)
      (Contains-push_cases row vertex p there);
  added = so.added ++ vertex ∷ [];
  found = rw so.found (append_assoc found_old so.added (vertex ∷ []));
  from_row = λ p there.
      ⊎_elim
      (λ (before : Contains so.added p). Contains-append_left row (vertex ∷ []) p (so.from_row p before))
      (λ (e : vertex ≡ p). rw (← e) (Contains-push row vertex))
      (Contains-push_cases so.added vertex p there);
  no_others = λ p m.
      ⊎_elim
      (λ (e : p ≡ vertex). inr (rw e (Contains-push so.added vertex)))
      (λ (ne : p ≢ vertex).
      ⊎_elim
      (λ (before : IsMarked old p). inl before)
      (λ (there : Contains so.added p). inr (Contains-append_left so.added (vertex ∷ []) p there))
      (so.no_others p (marked_before new vertex p ne m)))
      (cases_eq p vertex);
  budget =
      let less = one_less new vertex inside is in
      let b = so.budget in
      rw length-append (omega arith);
  distinct = λ were apart.
      all_pairs_push (λ a b. a ≢ b) found_new vertex (so.distinct were apart)
      (λ k d below same.
      let on = all_marked row old new found_old found_new so were (get_or found_new k d)
      (Contains-get_or found_new k d below) in
      let e : true ≡ false = sym (rw same at on) ∙ is in
      cc);
}

pub unmarks_none : (marks : List Bool) → Unmarks [] marks marks
unmarks_none marks = record { as_many = refl; still = λ vertex is. (is, λ (k, below, is). absurd (omega arith)) }

-- one vertex more
pub unmarks_more :
    (vertices : List ℕ) (vertex : ℕ) (old new : List Bool) → vertex < length new → Unmarks vertices old new
    → Unmarks (vertices ++ vertex ∷ []) old (set new vertex false)
unmarks_more vertices vertex old new inside so = record {
  as_many = length-set new vertex false ∙ so.as_many;
  still = λ v is.
      ⊎_elim
      (λ (e : v ≡ vertex). let off : get_or (set new vertex false) v false ≡ false = rw (e, get_or-set_same) refl in
      absurd (let t : true ≡ false = sym is ∙ off in cc))
      (λ (ne : v ≢ vertex).
      let was = so.still v (rw get_or-set_other at is) in (
        was.0,
        λ there. ⊎_elim (λ (before : Contains vertices v). was.1 before) (λ (e : vertex ≡ v). ne (sym e))
            (Contains-push_cases vertices vertex v there),
      ))
      (cases_eq v vertex);
}
