-- The folders above a path whose ignore files count.
use Rattle.std.specs.IoError.{error_kind}
use Rattle.std.specs.Path.{path_join, path_parent}
use Rattle.std.specs.Prelude.{◌≡◌, ◌⊎◌, ◌++◌, ℕ, Bool, true, false, List, [], ◌∷◌, codes, map, reverse, string_bytes}
use Rattle.std.specs.Prelude.{Some, None, Result, Ok, Err}
use Rattle.std.specs.declared.io.Error.{Error}
use Rattle.std.specs.declared.io.ErrorKind.TheVariants.{NotADirectory, NotFound}
use Rattle.unignored_files.specs.declared.above.Above.{Above}

-- Nothing is at a path: reading it gives this error. The path may be below a file.
abbrev pub IsMissing : Error → Type 0
IsMissing error = (error_kind error ≡ NotFound) ⊎ (error_kind error ≡ NotADirectory)

-- Something is at a path: reading it gives this. It may be a folder, which can't be read.
abbrev pub IsThere : Result (List ℕ) Error → Type 0
IsThere (Ok text) = Unit {0}
IsThere (Err error) = ¬ IsMissing error

-- what a repository of git has in its top folder
abbrev pub git_path : List ℕ → List ℕ
git_path folder = path_join folder (codes ".git")

-- the folders, from the top down
abbrev pub folders_of : {A : Type 0} → Above A → List (List ℕ)
folders_of above = reverse (map string_bytes above.folders.items)

-- the files, as a trait tells what reading one does
module _ {S : Type 0} (reads : S → List ℕ → Result (List ℕ) Error → S → Type 0) where
  -- whether a folder is the top of a repository is found out
  pub data Probes (folder : List ℕ) : Bool → S → S → Type 0 where
    top : {given : Result (List ℕ) Error} {old new : S} → reads old (git_path folder) given new → IsThere given
        → Probes folder true old new
    no_top : {error : Error} {old new : S} → reads old (git_path folder) (Err error) new → IsMissing error
        → Probes folder false old new

  -- `Climbs path folders is_repository old new`: these are the folders above a path, from the top down. The top is the
  -- nearest folder that is one of a repository, the path itself among them. Where there is none, it is the root.
  pub data Climbs : List ℕ → List (List ℕ) → Bool → S → S → Type 0 where
    at_top : {path : List ℕ} {old new : S} → Probes path true old new → Climbs path [] true old new
    at_root : {path : List ℕ} {old new : S} → Probes path false old new → path_parent path ≡ None
        → Climbs path [] false old new
    up : {path folder : List ℕ} {folders : List (List ℕ)} {is_repository : Bool} {old middle new : S}
        → Probes path false old middle → path_parent path ≡ Some folder → Climbs folder folders is_repository middle new
        → Climbs path (folders ++ folder ∷ []) is_repository old new
