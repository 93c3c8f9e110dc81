-- The folders above a path, the nearest first.
use Rattle.std.proofs.Common.{◌≡◌, ◌<◌, arith, length, ℕ, ◌++◌, [], ◌∷◌, List, Bool, Some, Result, false, ap, sym, ◌∙◌}
use Rattle.std.proofs.Common.{subst, append_assoc, append-nil}
use Rattle.std.proofs.lemmas.List.{length-append}
use Rattle.std.proofs.lemmas.Paths.{path_components_parent}
use Rattle.std.specs.Path.{path_components, path_parent}
use Rattle.std.specs.declared.io.Error.{Error}
use Rattle.unignored_files.specs.Above.{Climbs, Probes, up}

-- a folder has fewer names above it than what is in it
pub fewer_names : (path folder : List ℕ) → path_parent path ≡ Some folder
    → length (path_components folder) < length (path_components path)
fewer_names path folder is = rw (path_components_parent path folder is).1 (simp length-append (omega arith))

module _ {S : Type 0} (reads : S → List ℕ → Result (List ℕ) Error → S → Type 0) where
  -- From a path one came to a folder, with these folders in between: those above the folder are above them.
  abbrev pub Comes : List ℕ → List ℕ → List (List ℕ) → S → S → Type 0
  Comes path folder between old new =
      (folders : List (List ℕ)) (is_repository : Bool) (final : S) → Climbs reads folder folders is_repository new final
      → Climbs reads path (folders ++ between) is_repository old final

  pub begins : (path : List ℕ) (state : S) → Comes path path [] state state
  begins path state folders is_repository final climbs =
      subst (λ (these : List (List ℕ)). Climbs reads path these is_repository state final)
      (sym (append-nil folders)) climbs

  pub goes_up : (path folder parent : List ℕ) (between between' : List (List ℕ)) (old middle new : S)
      → Comes path folder between old middle → Probes reads folder false middle new → path_parent folder ≡ Some parent
      → between' ≡ parent ∷ between → Comes path parent between' old new
  goes_up path folder parent between between' old middle new comes probes is_parent more folders is_repository
      final climbs =
      subst (λ (these : List (List ℕ)). Climbs reads path these is_repository old final)
      (append_assoc folders (parent ∷ []) between ∙ ap (λ (these : List (List ℕ)). folders ++ these) (sym more))
      (comes (folders ++ parent ∷ []) is_repository final (up probes is_parent climbs))
