-- What is left of the files.
use Rattle.std.proofs.Common.{◌≡◌, ℕ, [], ◌∷◌, Bool, true, false, List, Option, Some, None, Result, Ok, Vec, cond, map}
use Rattle.std.proofs.Common.{is_some, refl, ap, sym, ◌∙◌, subst}
use Rattle.std.specs.List.{filter}
use Rattle.std.specs.declared.io.Error.{Error}
use Rattle.file_access.specs.Listing.{Listing, listing_of}
use Rattle.file_access.specs.declared.entries.Entry.{Entry}
use Rattle.ignore_rules.specs.Ignored.{ignores}
use Rattle.ignore_rules.specs.Lines.{Rule}
use Rattle.unignored_files.specs.Above.{Climbs}
use Rattle.unignored_files.specs.Reading.{Adds, files_of_all}
use Rattle.unignored_files.specs.Unignored.{IsLeftOut, file, folder}

one_kept : {X Y : Type 0} (f : X → Y) (it : Bool) (x : X) (kept : List X)
    → map f (cond it (x ∷ kept) kept) ≡ cond it (f x ∷ map f kept) (map f kept)
one_kept f true x kept = refl
one_kept f false x kept = refl

-- those that are kept are the same before and after a map
pub map-filter : {X Y : Type 0} (f : X → Y) (test : Y → Bool) (items : List X)
    → map f (filter (λ x. test (f x)) items) ≡ filter test (map f items)
map-filter f test [] = refl
map-filter f test (x ∷ items) =
    one_kept f (test (f x)) x (filter (λ y. test (f y)) items)
    ∙ ap (λ kept. cond (test (f x)) (f x ∷ kept) kept) (map-filter f test items)

module _ {S : Type 0} (lists : S → List ℕ → Listing → S → Type 0)
    (locates : S → List ℕ → Result (List ℕ) Error → S → Type 0)
    (reads : S → List ℕ → Result (List ℕ) Error → S → Type 0) where
  -- the rules decide about a file or a folder
  pub decides : {A : Type 0} (path real : List ℕ) (folders : List (List ℕ)) (is_repository : Bool) (rules : List Rule)
      (found : Option (Vec (Entry A) A))
      (is_folder it : Bool) (old located ready read new : S)
      → locates old path (Ok real) located → Climbs reads real folders is_repository located ready
      → Adds reads (files_of_all is_repository folders) [] rules ready read
      → lists read path (listing_of (Ok found)) new
      → is_folder ≡ is_some found → it ≡ ignores rules real is_folder
      → IsLeftOut lists locates reads path (Ok it) rules old new
  decides path real folders is_repository rules None is_folder it old located ready read new real_is climbs adds
      listed kind is =
      subst (λ (it : Bool). IsLeftOut lists locates reads path (Ok it) rules old new)
      (sym (is ∙ ap (ignores rules real) kind))
      (file real_is climbs adds listed)
  decides path real folders is_repository rules (Some found) is_folder it old located ready read new real_is climbs
      adds listed kind is =
      subst (λ (it : Bool). IsLeftOut lists locates reads path (Ok it) rules old new)
      (sym (is ∙ ap (ignores rules real) kind))
      (folder real_is climbs adds listed)
