-- Lines, one after the other.
use Rattle.std.proofs.Common.{◌≡◌, ℕ, ◌+◌, ◌<◌, List, [], ◌∷◌, ◌++◌, length, take, get_or, refl, sym, ap, subst, ◌∙◌}
use Rattle.std.proofs.lemmas.Grind.{flat_map-append}
use Rattle.std.proofs.lemmas.List.{append-nil, take_more}
use Rattle.std.specs.List.{flat_map, AllZip}
use Rattle.gqlcst_run.proofs.Buffers.{puts_nothing}
use Rattle.gqlcst_run.specs.Buffering.{Buffered, PutsSome}
use Rattle.gqlcst_run.specs.Rendering.{line, AreLines}

pub lines_none : {A : Type 0} (R : A → List ℕ → Type 0) → AreLines R [] []
lines_none R = record { forms = []; each = tt; joined = refl }

pub lines_put_none : {A : Type 0} (R : A → List ℕ → Type 0) (s : Buffered) → PutsSome (AreLines R []) s s
lines_put_none R s = record { output = []; made = lines_none R; puts = puts_nothing s }

zip-more : {A : Type 0} (R : A → List ℕ → Type 0) (values : List A) (forms : List (List ℕ)) (value : A) (form : List ℕ)
    → AllZip R values forms → R value form
    → AllZip R (values ++ value ∷ []) (forms ++ form ∷ [])
zip-more R [] [] value form all one = (one, tt)
zip-more R (v ∷ vs) (f ∷ fs) value form all one = (all.0, zip-more R vs fs value form all.1 one)
zip-more R [] (f ∷ fs) value form all one = absurd all
zip-more R (v ∷ vs) [] value form all one = absurd all

-- one more line
pub lines-more : {A : Type 0} (R : A → List ℕ → Type 0) (values : List A) (value : A) (front form : List ℕ)
    → AreLines R values front → R value form
    → AreLines R (values ++ value ∷ []) (front ++ line form)
lines-more R values value front form h one = record {
  forms = h.forms ++ form ∷ [];
  each = zip-more R values h.forms value form h.each one;
  joined =
      ap (λ (bytes : List ℕ). bytes ++ line form) h.joined
      ∙ (ap (λ (bytes : List ℕ). flat_map line h.forms ++ bytes) (sym (append-nil (line form)))
      ∙ sym (flat_map-append line h.forms (form ∷ [])));
}

-- the same where the value is the next of a list
pub lines-next : {A : Type 0} (R : A → List ℕ → Type 0) (values : List A) (i : ℕ) (value : A)
    (front form output : List ℕ) → AreLines R (take i values) front
    → value ≡ get_or values i value → i < length values
    → R value form → output ≡ front ++ line form → AreLines R (take (i + 1) values) output
lines-next {A} R values i value front form output before is within one joined =
    let more = take_more values i value within ∙ ap (λ (v : A). take i values ++ v ∷ []) (sym is) in
    subst (λ (bytes : List ℕ). AreLines R (take (i + 1) values) bytes) (sym joined)
    (subst (λ (vs : List A). AreLines R vs (front ++ line form)) (sym more)
    (lines-more R (take i values) value front form before one))
