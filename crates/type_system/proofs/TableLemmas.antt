-- Tables of definitions by their names, with one definition more.
use Rattle.std.proofs.Common.{◌≡◌, List, [], ◌∷◌, ◌++◌, Bool, true, false, cond, Option, Some, None, unwrap_or}
use Rattle.std.proofs.Common.{bytes_eq, refl, sym, ◌∙◌, ap}
use Rattle.std.proofs.lemmas.List.Folds.{find-append}
use Rattle.std.proofs.lemmas.Slice.Eq.{bytes_eq-Decides}
use Rattle.std.specs.List.{find}
use Rattle.std.specs.Option.{option_or}
use Rattle.std.specs.Prelude.{is_some, option_map}
use Rattle.validation_names.specs.Names.{Entries, Enters, Name, entry_of}
use Rattle.validation_names.specs.OwnNames.{own_name}
use Rattle.validation_names.specs.Sites.{Located}
use Rattle.type_system.specs.Definitions.{is_named}
use Rattle.type_system.specs.Tables.{one_if}
use Rattle.type_system.specs.Types.{first_named}

or_none : {A : Type 0} (o : Option A) → o ≡ option_or o None
or_none None = refl
or_none (Some x) = refl

map_or : {A B : Type 0} (f : A → B) (a b : Option A)
    → option_map f (option_or a b) ≡ option_or (option_map f a) (option_map f b)
map_or f None b = refl
map_or f (Some x) b = refl

module _ {V W : Type 0} (view : V → W) where
  one_more : (o : Option V) (v : V)
      → option_map view (Some (unwrap_or o v)) ≡ option_or (option_map view o) (Some (view v))
  one_more None v = refl
  one_more (Some x) v = refl

  -- a value that is entered under a name
  pub enters : (old new : Entries V) (n : Name) (v : V) → Enters old new n v → (q : Name)
      → option_map view (entry_of new q) ≡ option_or (option_map view (entry_of old q)) (one_if (bytes_eq n q) (view v))
  enters old new n v is q = ap (option_map view) (is q) ∙ by_case (bytes_eq n q) refl
    where
      by_case : (b : Bool) → bytes_eq n q ≡ b
          → option_map view (cond b (Some (unwrap_or (entry_of old n) v)) (entry_of old q))
          ≡ option_or (option_map view (entry_of old q)) (one_if b (view v))
      by_case true e =
          ap (λ m. option_map view (Some (unwrap_or (entry_of old m) v))) ((bytes_eq-Decides n q).0 e)
          ∙ one_more (entry_of old q) v
      by_case false e = or_none (option_map view (entry_of old q))

  -- a value whose name was entered before
  pub is_there : (old : Entries V) (n : Name) (w : W) → is_some (entry_of old n) ≡ true → (q : Name)
      → option_map view (entry_of old q) ≡ option_or (option_map view (entry_of old q)) (one_if (bytes_eq n q) w)
  is_there old n w there q = by_case (bytes_eq n q) refl
    where
      some : (o : Option V) → is_some o ≡ true → option_map view o ≡ option_or (option_map view o) (Some w)
      some None t = absurd (cc)
      some (Some x) t = refl

      by_case : (b : Bool) → bytes_eq n q ≡ b
          → option_map view (entry_of old q) ≡ option_or (option_map view (entry_of old q)) (one_if b w)
      by_case true e =
          some (entry_of old q) (ap (λ m. is_some (entry_of old m)) (sym ((bytes_eq-Decides n q).0 e)) ∙ there)
      by_case false e = or_none (option_map view (entry_of old q))

-- The name of a definition decides which entry is new.
pub under_name : {W : Type 0} (d : Located) (n : Name) (before after : Name → Option W) (w : W)
    → own_name d.place ≡ Some n → ((q : Name) → after q ≡ option_or (before q) (one_if (bytes_eq n q) w))
    → (q : Name) → after q ≡ option_or (before q) (one_if (is_named q d) w)
under_name d n before after w named is q = rw named (is q)

-- one definition more in a table of the first of each name
pub first_more : {W : Type 0} (make : Located → W) (before after : Name → Option W) (ds : List Located) (d : Located)
    → ((q : Name) → before q ≡ option_map make (first_named ds q))
    → ((q : Name) → after q ≡ option_or (before q) (one_if (is_named q d) (make d)))
    → (q : Name) → after q ≡ option_map make (first_named (ds ++ d ∷ []) q)
first_more make before after ds d are is q =
    is q ∙ ap (λ o. option_or o (one_if (is_named q d) (make d))) (are q)
    ∙ ap (option_or (option_map make (first_named ds q))) (one (is_named q d))
    ∙ sym (ap (option_map make) (find-append (is_named q) ds (d ∷ []))
    ∙ map_or make (first_named ds q) (find (is_named q) (d ∷ [])))
  where
    one : (b : Bool) → one_if b (make d) ≡ option_map make (cond b (Some d) None)
    one true = refl
    one false = refl

pub none_there : {A : Type 0} (o : Option A) → is_some o ≡ false → o ≡ None
none_there None f = refl
none_there (Some x) f = absurd (cc)

pub first_site_more : (before after : Name → Option Located) (ds : List Located) (d : Located)
    → ((q : Name) → before q ≡ first_named ds q)
    → ((q : Name) → after q ≡ option_or (before q) (one_if (is_named q d) d))
    → (q : Name) → after q ≡ first_named (ds ++ d ∷ []) q
first_site_more before after ds d are is q =
    is q ∙ ap (λ o. option_or o (one_if (is_named q d) d)) (are q) ∙ sym (find-append (is_named q) ds (d ∷ []))
