-- What ignore files leave out of the files that a trait reaches.
use Rattle.std.specs.List.{filter}
use Rattle.std.specs.Path.{path_join}
use Rattle.std.specs.Prelude.{not, ℕ, Bool, true, false, List, [], Result, Ok, Err}
use Rattle.std.specs.declared.io.Error.{Error}
use Rattle.file_access.specs.Listing.{Entry, Listing, unlisted, no_folder, entries}
use Rattle.file_access.specs.declared.entries.Kind.{Kind}
use Rattle.file_access.specs.declared.entries.Kind.TheVariants as kind
use Rattle.ignore_rules.specs.Ignored.{ignores}
use Rattle.ignore_rules.specs.Lines.{Rule}
use Rattle.unignored_files.specs.Above.{Climbs, IsMissing}
use Rattle.unignored_files.specs.Reading.{Adds, IsMemory, IsStopped, files_of, files_of_all}

abbrev pub is_folder : Kind → Bool
is_folder kind.File = false
is_folder kind.Folder = true
is_folder kind.Other = false
is_folder (kind.Failed error) = false

-- whether the rules keep an entry of a folder
abbrev pub is_kept : List Rule → List ℕ → Entry → Bool
is_kept rules folder entry = not (ignores rules (path_join folder entry.name) (is_folder entry.kind))

-- the files, as a trait tells what its calls do
module _ {S : Type 0} (lists : S → List ℕ → Listing → S → Type 0)
    (locates : S → List ℕ → Result (List ℕ) Error → S → Type 0)
    (reads : S → List ℕ → Result (List ℕ) Error → S → Type 0) where
  -- `Sifts path rules old listing rules' new`: the entries of the folder at a path that the rules keep. They are the
  -- rules before, and then those of the folder's own ignore files.
  pub data Sifts (path : List ℕ) : List Rule → S → Listing → List Rule → S → Type 0 where
    no_folder_listed : {rules : List Rule} {old new : S} → lists old path no_folder new
        → Sifts path rules old no_folder rules new
    unlisted_folder : {error : Error} {rules : List Rule} {old new : S} → lists old path (unlisted error) new
        → Sifts path rules old (unlisted error) rules new
    sifted : {given : List Entry} {folder : List ℕ} {rules rules' : List Rule} {old listed located new : S}
        → lists old path (entries given) listed → locates listed path (Ok folder) located
        → Adds reads (files_of true folder) rules rules' located new
        → Sifts path rules old (entries (filter (is_kept rules' folder) given)) rules' new
    unlocated : {given : List Entry} {error : Error} {rules : List Rule} {old listed new : S}
        → lists old path (entries given) listed → locates listed path (Err error) new
        → Sifts path rules old (unlisted error) rules new
    stopped : {given : List Entry} {folder : List ℕ} {error : Error} {rules rules' : List Rule}
        {old listed located new : S}
        → lists old path (entries given) listed → locates listed path (Ok folder) located
        → IsStopped reads (files_of true folder) rules error located new
        → Sifts path rules old (unlisted error) rules' new
    refused : {error : Error} {rules rules' : List Rule} {old new : S} → IsMemory error
        → Sifts path rules old (unlisted error) rules' new

  -- `IsLeftOut path answer rules old new`: whether what is at a path is left out, by the rules of the ignore files in
  -- the folders above it. Those are the rules from then on. A path that leads nowhere is not left out.
  pub data IsLeftOut (path : List ℕ) : Result Bool Error → List Rule → S → S → Type 0 where
    nowhere : {error : Error} {old new : S} → locates old path (Err error) new → IsMissing error
        → IsLeftOut path (Ok false) [] old new
    unlocated_path : {error : Error} {rules : List Rule} {old new : S} → locates old path (Err error) new
        → IsLeftOut path (Err error) rules old new
    file : {real : List ℕ} {folders : List (List ℕ)} {is_repository : Bool} {rules : List Rule}
        {old located ready read new : S}
        → locates old path (Ok real) located → Climbs reads real folders is_repository located ready
        → Adds reads (files_of_all is_repository folders) [] rules ready read
        → lists read path no_folder new → IsLeftOut path (Ok (ignores rules real false)) rules old new
    folder : {real : List ℕ} {folders : List (List ℕ)} {is_repository : Bool} {rules : List Rule} {given : List Entry}
        {old located ready read new : S}
        → locates old path (Ok real) located → Climbs reads real folders is_repository located ready
        → Adds reads (files_of_all is_repository folders) [] rules ready read
        → lists read path (entries given) new → IsLeftOut path (Ok (ignores rules real true)) rules old new
    stopped_above : {real : List ℕ} {folders : List (List ℕ)} {is_repository : Bool} {error : Error} {rules : List Rule}
        {old located ready new : S}
        → locates old path (Ok real) located → Climbs reads real folders is_repository located ready
        → IsStopped reads (files_of_all is_repository folders) [] error ready new
        → IsLeftOut path (Err error) rules old new
    unlisted_path : {real : List ℕ} {folders : List (List ℕ)} {is_repository : Bool} {error : Error} {rules : List Rule}
        {old located ready read new : S}
        → locates old path (Ok real) located → Climbs reads real folders is_repository located ready
        → Adds reads (files_of_all is_repository folders) [] rules ready read
        → lists read path (unlisted error) new → IsLeftOut path (Err error) rules old new
    refused_above : {error : Error} {rules : List Rule} {old new : S} → IsMemory error
        → IsLeftOut path (Err error) rules old new
