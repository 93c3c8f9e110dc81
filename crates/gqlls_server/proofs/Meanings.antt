-- Names that have no meaning by their texts.
use Rattle.std.proofs.Common.{◌≡◌, ℕ, Bool, true, false, List, [], ◌∷◌, Option, Some, None, ap, refl, subst, sym}
use Rattle.std.specs.List.{find}
use Rattle.std.specs.Prelude.{MatchOption, cond, if◌then◌else◌, is_some, unwrap_or, ⊤}
use Rattle.json.specs.Json.{Json}
use Rattle.apollo_tree.specs.Order.{Place}
use Rattle.editor_answers.specs.Names.{identifier_at, meaning_at}
use Rattle.editor_answers.specs.declared.names.Meaning.{Meaning}
use Rattle.gqlls_server.specs.Renaming.{IsFailed, IsRenamed, IsRenamedAt, KnownFile, root_of}

-- what a search finds passes its test
found_first : {X : Type 0} (test : X → Bool) (x y : X) (found : Option X) (passes : Bool) → test y ≡ passes
    → (found ≡ Some x → test x ≡ true)
    → cond passes (Some y) found ≡ Some x → test x ≡ true
found_first {X = X} test x y found true is rest h =
    subst (λ (z : X). test z ≡ true) (ap (λ (o : Option X). unwrap_or o x) h) is
found_first test x y found false is rest h = rest h

pub found_passes : {X : Type 0} (test : X → Bool) (xs : List X) (x : X) → find test xs ≡ Some x → test x ≡ true
found_passes test [] x h = absurd (let no : false ≡ true = ap is_some h in cc no)
found_passes test (y ∷ ys) x h = found_first test x y (find test ys) (test y) refl (found_passes test ys x) h

-- a choice, where the test is passed
pub chosen : {X : Type 0} (passes : Bool) (one other result : X) → passes ≡ true
    → result ≡ (if passes then one else other) → result ≡ one
chosen true one other result is h = h
chosen false one other result is h = absurd (let no : false ≡ true = is in cc no)

module _ (id : Json) (asked : KnownFile) (offset : ℕ) (name : List ℕ) (known : List KnownFile) (body : List ℕ) where
  abbrev Renamed : Option Meaning → Type 0
  Renamed meaning = MatchOption meaning ⊤ (λ meaning. IsRenamed id meaning.kind asked offset name known body)

  -- a name without a meaning may be anything
  pub meaningless : (leaf : Place) → identifier_at (root_of asked) offset ≡ Some leaf → meaning_at leaf ≡ None
      → IsRenamedAt id asked offset name known body
  meaningless leaf found none =
      subst (λ (o : Option Place). MatchOption o (IsFailed id body) (λ leaf. Renamed (meaning_at leaf))) (sym found)
      (subst Renamed (sym none) tt)

  -- one with a meaning is renamed by it
  pub meant : (leaf : Place) (meaning : Meaning) → identifier_at (root_of asked) offset ≡ Some leaf
      → meaning_at leaf ≡ Some meaning
      → IsRenamed id meaning.kind asked offset name known body → IsRenamedAt id asked offset name known body
  meant leaf meaning found is renamed =
      subst (λ (o : Option Place). MatchOption o (IsFailed id body) (λ leaf. Renamed (meaning_at leaf))) (sym found)
      (subst Renamed (sym is) renamed)
