-- Values made from the answer of a search.
use Rattle.std.proofs.Common.{◌≡◌, Option, Some, None, ap, sym, ◌∙◌}
use Rattle.std.specs.Prelude.{option_map}

module _ {A B C : Type 0} (place : A → B) (make : Option B → C) (found : Option A) (wanted : Option B)
    (is : option_map place found ≡ wanted) where
  pub made : (x : A) → found ≡ Some x → make (Some (place x)) ≡ make wanted
  made x so = ap make (sym (ap (option_map place) so) ∙ is)

  pub made_without : found ≡ None → make None ≡ make wanted
  made_without so = ap make (sym (ap (option_map place) so) ∙ is)
