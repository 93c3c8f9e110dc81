-- The files that a path names: those below it where it is a folder's.
use Rattle.std.specs.List.{filter_map}
use Rattle.std.specs.Prelude.{◌≡◌, ◌++◌, ℕ, List, [], ◌∷◌, Option, Some, None, string_bytes, if◌then◌else◌}
use Rattle.std.specs.declared.io.Error.{Error}
use Rattle.file_access.specs.Listing.{Entry, Listing, unlisted, no_folder, entries}
use Rattle.file_access.specs.declared.entries.Kind.{Kind}
use Rattle.file_access.specs.declared.entries.Kind.TheVariants as kind
use Rattle.named_files.specs.Names.{is_hidden, is_of_others, is_graphql, path_in}
use Rattle.named_files.specs.declared.search.Named.{Named}
use Rattle.named_files.specs.declared.search.Named.TheVariants as variant

-- A path where there is a file, where there may be a folder, or where something could not be read.
pub data FoundPath : Type 0 where
  file : List ℕ → FoundPath
  folder : List ℕ → FoundPath
  unreadable : List ℕ → FoundPath

abbrev pub as_named : {A : Type 0} → Named A → FoundPath
as_named (variant.File path) = file (string_bytes path)
as_named (variant.Failed path error) = unreadable (string_bytes path)

abbrev pub path_of : FoundPath → List ℕ
path_of (file path) = path
path_of (folder path) = path
path_of (unreadable path) = path

-- What is looked at, by a path, a name and its kind: a folder that package managers do not fill, or a file whose name
-- is a GraphQL file's. Symbolic links, pipes and devices never are looked at.
abbrev pub found_path_of : List ℕ → List ℕ → Kind → Option FoundPath
found_path_of path name kind.File = if is_graphql name then Some (file path) else None
found_path_of path name kind.Folder = if is_of_others name then None else Some (folder path)
found_path_of path name kind.Other = None
found_path_of path name (kind.Failed error) = Some (unreadable path)

-- the same of an entry of a folder, if it is not hidden
abbrev pub found_path_in : List ℕ → Entry → Option FoundPath
found_path_in path entry =
    if is_hidden entry.name then None else found_path_of (path_in path entry.name) entry.name entry.kind

-- What is found at a path. Where that is nothing, the path counts as unreadable.
abbrev pub named : List ℕ → List FoundPath → List FoundPath
named path [] = unreadable path ∷ []
named path (found_path ∷ found) = found_path ∷ found

-- the folders, as a trait tells what listing one does
module _ {S : Type 0} (lists : S → List ℕ → Listing → S → Type 0) where
  -- `Finds waiting found old new`: what is found at the paths that wait, one after the other, and below them: files,
  -- and what could not be read.
  pub data Finds : List FoundPath → List FoundPath → S → S → Type 0 where
    nothing : {state : S} → Finds [] [] state state
    at_file : {path : List ℕ} {waiting found : List FoundPath} {old new : S}
        → Finds waiting found old new → Finds (file path ∷ waiting) (file path ∷ found) old new
    at_unreadable : {path : List ℕ} {waiting found : List FoundPath} {old new : S}
        → Finds waiting found old new → Finds (unreadable path ∷ waiting) (unreadable path ∷ found) old new
    at_folder : {path : List ℕ} {has : List Entry} {waiting found : List FoundPath} {old middle new : S}
        → lists old path (entries has) middle
        → Finds (filter_map (found_path_in path) has ++ waiting) found middle new
        → Finds (folder path ∷ waiting) found old new
    at_no_folder : {path : List ℕ} {waiting found : List FoundPath} {old middle new : S}
        → lists old path no_folder middle → Finds waiting found middle new
        → Finds (folder path ∷ waiting) (file path ∷ found) old new
    at_unlisted : {path : List ℕ} {error : Error} {waiting found : List FoundPath} {old middle new : S}
        → lists old path (unlisted error) middle → Finds waiting found middle new
        → Finds (folder path ∷ waiting) (unreadable path ∷ found) old new

  -- these are the files that a path names
  pub record IsNamed (path : List ℕ) (found : List FoundPath) (old new : S) : Type 0 where
    pub all : List FoundPath
    pub finds : Finds (folder path ∷ []) all old new
    pub is : found ≡ named path all

module _ {S : Type 0} (lists : S → List ℕ → Listing → S → Type 0) where
  -- Folders were listed, and nothing else was done.
  pub data Lists : S → S → Type 0 where
    none : {state : S} → Lists state state
    more : {old middle new : S} {path : List ℕ} {listing : Listing} → Lists old middle
        → lists middle path listing new → Lists old new
