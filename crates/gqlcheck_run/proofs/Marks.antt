-- Which paths were read.
use Rattle.std.proofs.Common.{◌≡◌, ◌∙◌, ℕ, Bool, true, false, List, ap, refl, cond}
use Rattle.std.proofs.lemmas.Map.Text.{btree_set_updates_text}
use Rattle.std.specs.BTreeSet.{BTreeSet, UpdatesBy, contains_text}
use Rattle.std.specs.Prelude.{◌||◌, bytes_eq, string_bytes}
use Rattle.std.specs.String.{string_cmp}
use Rattle.std.specs.declared.string.String.{String}
use Rattle.gqlcheck_run.specs.Inputs.{Marks}

or_else : (b c : Bool) → cond b true c ≡ (b || c)
or_else true c = refl
or_else false c = refl

-- A path is entered.
pub entered : {A : Type 0} (path : List ℕ) (key : String A) (s n : BTreeSet (String A))
    → UpdatesBy string_cmp (string_cmp key) s n true
    → string_bytes key ≡ path → Marks path (contains_text s) (contains_text n)
entered path key s n updates same other =
    btree_set_updates_text (string_bytes key) s n true updates other
    ∙ ap (λ (bs : List ℕ). cond (bytes_eq bs other) true (contains_text s other)) same
    ∙ or_else (bytes_eq path other) (contains_text s other)
