-- How far a search for files has come.
use Rattle.std.specs.Prelude.{◌≡◌, ◌++◌, ℕ, List, map, reverse, string_bytes}
use Rattle.file_access.specs.Listing.{Listing}
use Rattle.named_files.specs.Finding.{FoundPath, file, folder, unreadable, Finds, as_named}
use Rattle.named_files.specs.declared.search.FoundPath.{FoundPath as WaitingPath}
use Rattle.named_files.specs.declared.search.FoundPath.TheVariants as found_path
use Rattle.named_files.specs.declared.search.Search.{Search}

abbrev pub as_found_path : {A : Type 0} → WaitingPath A → FoundPath
as_found_path (found_path.File path) = file (string_bytes path)
as_found_path (found_path.Folder path) = folder (string_bytes path)
as_found_path (found_path.Failed path error) = unreadable (string_bytes path)

abbrev pub waiting_of : {A : Type 0} → Search A → List FoundPath
waiting_of search = reverse (map as_found_path search.waiting.items)

abbrev pub found_by : {A : Type 0} → Search A → List FoundPath
found_by search = map as_named search.found.items

-- From paths that wait and what was found before, a search came to others and has found more: what is found from there
-- on is found after that.
pub record Advances {S : Type 0} (lists : S → List ℕ → Listing → S → Type 0)
    (waiting found : List FoundPath) (old : S) (waiting' found' : List FoundPath) (new : S) : Type 0 where
  pub added : List FoundPath
  pub is : found' ≡ found ++ added
  pub onward : (rest : List FoundPath) (final : S) → Finds lists waiting' rest new final
      → Finds lists waiting (added ++ rest) old final
