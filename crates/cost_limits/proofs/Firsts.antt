-- The first fragments of names.
use Rattle.std.proofs.Common.{◌≡◌, ℕ, ◌<◌, ◌≤◌, List, length, map, get_or, Bool, true, false, ltb, cond, Option, Some}
use Rattle.std.proofs.Common.{None, inl, inr, refl, sym, ap, ◌∙◌, subst, arith, bytes_eq}
use Rattle.std.proofs.lemmas.Bool.{cases_lt}
use Rattle.std.proofs.lemmas.Bool.Decides.{nat_tests}
use Rattle.std.proofs.lemmas.List.{get_or-map, length-map}
use Rattle.std.proofs.lemmas.List.Sums.{fails_before_first}
use Rattle.std.proofs.lemmas.Slice.Eq.{bytes_eq-Decides}
use Rattle.std.specs.List.{position_or_len}
use Rattle.std.specs.Prelude.{IfNone}
use Rattle.validation_names.specs.Definitions.{as_defined, fragment_name, fragment_names}
use Rattle.validation_names.specs.Names.{Name, Entries, entry_of, has_name, first_number, AreFirstNumbers}
use Rattle.validation_names.specs.declared.executables.ExecutableDefinition.{ExecutableDefinition}
use Rattle.cost_limits.specs.Measures.{IsFirst, IsSecond}

-- the name of one of the definitions
pub name_at : (vs : List ExecutableDefinition) (k : ℕ) (d : ExecutableDefinition) → k < length vs → d ≡ get_or vs k d
    → get_or (fragment_names (map as_defined vs)) k None ≡ fragment_name (as_defined d)
name_at vs k d h is =
    get_or-map fragment_name (map as_defined vs) k (as_defined d) None (omega (arith, length-map vs as_defined))
    ∙ ap fragment_name (get_or-map as_defined vs k d (as_defined d) h ∙ ap as_defined (sym is))

pub count_names : (vs : List ExecutableDefinition) → length (fragment_names (map as_defined vs)) ≡ length vs
count_names vs = length-map (map as_defined vs) fragment_name ∙ length-map vs as_defined

-- a fragment of a name has no smaller number than the first
record Found (names : List (Option Name)) (s : Name) (k : ℕ) : Type 0 where
  number : ℕ
  not_later : number ≤ k
  is : first_number names s ≡ Some number

own : (s : Name) → bytes_eq s s ≡ true
own s = (bytes_eq-Decides s s).1 refl

found : (names : List (Option Name)) (s : Name) (k : ℕ) → k < length names
    → get_or names k None ≡ Some s → Found names s k
found names s k h e =
    let p = has_name s in
    let passes : p (get_or names k None) ≡ true = ap p e ∙ own s in
    let first = position_or_len p names in
    let late : first ≤ k = elim (cases_lt k first) [
      | inl b ↦ absurd (no (p (get_or names k None)) passes
          (fails_before_first p names k None b))
      | inr b ↦ omega arith
    ] in
    record { number = first; not_later = late; is = inside first (length names) (omega arith) }
  where
    no : (b : Bool) → b ≡ true → b ≡ false → ⊥
    no b t f = cc

    inside : (m n : ℕ) → m < n → cond (ltb m n) (Some m) None ≡ Some m
    inside m n b = grind (arith, nat_tests)

module _ (entries : Entries ℕ) (names : List (Option Name)) (are : AreFirstNumbers entries names) (k : ℕ)
    (h : k < length names) where
  pub no_name : get_or names k None ≡ None → IsFirst names k
  no_name e s is = absurd (let r : ⊥ = cc in r)

  pub not_entered : (name : Option Name) (s : Name) → get_or names k None ≡ name → name ≡ Some s
      → entry_of entries s ≡ None → IsFirst names k
  not_entered name s e n none t is =
      let f = found names s k h (e ∙ n) in
      let given = are s in
      absurd (let r : ⊥ = cc (f.is) in r)

  pub is_second : (name : Option Name) (s : Name) (first : ℕ) → get_or names k None ≡ name → name ≡ Some s
      → entry_of entries s ≡ Some first → first < k
      → IsSecond names first k
  is_second name s first e n is b = record { name = s; first_is = sym (are s) ∙ is; second_is = e ∙ n; apart = b }

  pub is_first : (name : Option Name) (s : Name) (first : ℕ) → get_or names k None ≡ name → name ≡ Some s
      → entry_of entries s ≡ Some first → (first < k
      → ⊥) → IsFirst names k
  is_first name s first e n is b t its =
      let f = found names s k h (e ∙ n) in
      let given = are s in
      let same : first ≡ f.number = cc (f.is) in
      let last : first ≡ k = omega (arith, f.not_later, b) in
      let names_same : s ≡ t = cc in
      subst (λ u. first_number names u ≡ Some k) names_same (sym given ∙ is ∙ ap Some last)

pub if_none : {X : Type 0} (o : Option X) (P : Type 0) → P → IfNone o P
if_none None P h = h
if_none (Some x) P h = tt
