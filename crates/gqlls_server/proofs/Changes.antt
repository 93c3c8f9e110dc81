-- The changes that a message tells.
use Rattle.std.proofs.Common.{◌≡◌, List, [], ◌∷◌, ◌++◌, map, Option, Some, None, refl, sym, ap, ◌∙◌, Vec, append_assoc}
use Rattle.std.proofs.Common.{append-nil}
use Rattle.std.specs.Prelude.{option_map}
use Rattle.json.proofs.Trees.{view-Array}
use Rattle.json.specs.Find.{as_array}
use Rattle.json.specs.Json.{Json}
use Rattle.json.specs.Value.{items_of, value_view}
use Rattle.json.specs.declared.value.Value.{Value, Array}
use Rattle.gqlls_server.specs.Parameters.{both, each, list_of}

list_back : (js : List Json) → js ≡ list_of (items_of js)
list_back [] = refl
list_back (j ∷ js) = ap (λ (rest : List Json). j ∷ rest) (list_back js)

-- the items of a list
pub array_items : {A : Type 0} (value : Value A) (items : Vec (Value A) A) (slice : List (Value A))
    → value ≡ Array items → slice ≡ items.items
    → Some (map value_view slice) ≡ option_map list_of (as_array (value_view value))
array_items {A = A} value items slice is same =
    let list : Json → Option (List Json) = λ j. option_map list_of (as_array j) in
    let back : Some (map value_view slice) ≡ list (value_view (Array items)) =
    ap (λ (xs : List (Value A)). Some (map value_view xs)) same
    ∙ (ap (λ (js : List Json). Some js) (list_back (map value_view items.items)) ∙ sym (ap list (view-Array items))) in
    back ∙ sym (ap (λ (v : Value A). list (value_view v)) is)

module _ {A B : Type 0} (f : A → Option B) where
  -- what is made of all items, as far as they were looked at: what was made, and what is made of the rest
  abbrev pub IsSoFar : List A → List B → List A → Type 0
  IsSoFar all made rest = each f all ≡ option_map (λ more. made ++ more) (each f rest)

  further : (made : List B) (y : B) (rest : Option (List B))
      → option_map (λ more. made ++ more) (option_map (λ ys. y ∷ ys) rest)
      ≡ option_map (λ more. (made ++ y ∷ []) ++ more) rest
  further made y None = refl
  further made y (Some ys) = ap (λ (xs : List B). Some xs) (sym (append_assoc made (y ∷ []) ys))

  pub one_more : (all rest : List A) (made : List B) (x : A) (y : B) → IsSoFar all made (x ∷ rest) → f x ≡ Some y
      → IsSoFar all (made ++ y ∷ []) rest
  one_more all rest made x y so is =
      so ∙ (ap (λ (o : Option B). option_map (λ more. made ++ more) (both (λ y ys. y ∷ ys) o (each f rest))) is
      ∙ further made y (each f rest))

  pub stopped : (all rest : List A) (made : List B) (x : A) → IsSoFar all made (x ∷ rest)
      → f x ≡ None → None ≡ each f all
  stopped all rest made x so is =
      sym (so ∙ ap (λ (o : Option B). option_map (λ more. made ++ more) (both (λ y ys. y ∷ ys) o (each f rest))) is)

  pub finished : (all : List A) (made : List B) → IsSoFar all made [] → Some made ≡ each f all
  finished all made so = ap (λ (xs : List B). Some xs) (sym (append-nil made)) ∙ sym so
