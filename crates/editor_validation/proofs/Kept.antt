-- Violations that are kept, one more.
use Rattle.std.proofs.Common.{◌≡◌, ℕ, ◌+◌, ◌<◌, Bool, true, false, List, [], ◌∷◌, ◌++◌, length, map, take, get_or}
use Rattle.std.proofs.Common.{Option, Some, None, refl, append-nil}
use Rattle.std.proofs.lemmas.List.{take_more, map-append}
use Rattle.std.proofs.lemmas.List.Elements.{filter-append}
use Rattle.std.specs.List.{filter}
use Rattle.validation_names.specs.Names.{Name}
use Rattle.validation_rules.specs.declared.violations.Rule.{Rule}
use Rattle.validation_rules.specs.declared.violations.Rule.TheVariants.{KnownFragmentNames, NoUnusedFragments}
use Rattle.editor_validation.specs.Mending.{mends_at}

-- the same names mend the same
pub same_mends : (a b c d : Name → Bool) → ((n : Name) → a n ≡ b n) → ((n : Name) → c n ≡ d n)
    → (rule : Rule) (name : Option Name)
    → mends_at a c rule name ≡ mends_at b d rule name
same_mends a b c d ab cd rule None = refl
same_mends a b c d ab cd KnownFragmentNames (Some n) = ab n
same_mends a b c d ab cd NoUnusedFragments (Some n) = cd n
same_mends a b c d ab cd _ (Some n) = refl

one_passes : {B : Type 0} (p : B → Bool) (y : B) → p y ≡ true → filter p (y ∷ []) ≡ y ∷ []
one_passes p y e = rw e refl

one_fails : {B : Type 0} (p : B → Bool) (y : B) → p y ≡ false → filter p (y ∷ []) ≡ []
one_fails p y e = rw e refl

module _ {A B : Type 0} (p : B → Bool) (g : A → B) (xs : List A) (n : ℕ) (x : A) where
  pub kept_more : n < length xs → x ≡ get_or xs n x → p (g x) ≡ true
      → filter p (map g (take (n + 1) xs)) ≡ filter p (map g (take n xs)) ++ g x ∷ []
  kept_more below is e = rw (take_more xs n x below, map-append, filter-append, ← is, one_passes p (g x) e) refl

  pub left_more : n < length xs → x ≡ get_or xs n x → p (g x) ≡ false
      → filter p (map g (take (n + 1) xs)) ≡ filter p (map g (take n xs))
  left_more below is e = rw (take_more xs n x below, map-append, filter-append, ← is, one_fails p (g x) e, append-nil)
      refl
