-- Which ignore files are read, and the rules that they give.
use Rattle.std.specs.IoError.{error_kind}
use Rattle.std.specs.List.{flat_map}
use Rattle.std.specs.Path.{path_join}
use Rattle.std.specs.Prelude.{◌≡◌, ◌⊎◌, ◌++◌, ℕ, Bool, true, false, List, [], ◌∷◌, codes, map, Result, Ok, Err}
use Rattle.std.specs.declared.io.Error.{Error}
use Rattle.std.specs.declared.io.ErrorKind.TheVariants.{OutOfMemory}
use Rattle.file_access.specs.Reading.{IsAbsent}
use Rattle.ignore_rules.specs.Lines.{Rule, rules_in}

-- an ignore file: the path of its folder from the root on, and its name
pub record IgnoreFile : Type 0 where
  pub folder : List ℕ
  pub name : List ℕ

abbrev pub path_of : IgnoreFile → List ℕ
path_of file = path_join file.folder file.name

-- The names of the ignore files that count in a folder, in the order in which they are read, with the one of git or
-- without.
abbrev pub names : Bool → List (List ℕ)
names true = codes ".gitignore" ∷ codes ".prettierignore" ∷ codes ".gqlfmtignore" ∷ []
names false = codes ".prettierignore" ∷ codes ".gqlfmtignore" ∷ []

abbrev pub file_at : List ℕ → List ℕ → IgnoreFile
file_at folder name = record { folder = folder; name = name }

-- the ignore files of a folder
abbrev pub files_of : Bool → List ℕ → List IgnoreFile
files_of with_git folder = map (file_at folder) (names with_git)

-- the ignore files of some folders, one folder after the other
abbrev pub files_of_all : Bool → List (List ℕ) → List IgnoreFile
files_of_all with_git folders = flat_map (files_of with_git) folders

-- memory was refused
abbrev pub IsMemory : Error → Type 0
IsMemory error = error_kind error ≡ OutOfMemory

-- the files, as a trait tells what reading one does
module _ {S : Type 0} (reads : S → List ℕ → Result (List ℕ) Error → S → Type 0) where
  -- `Adds files rules rules' old new`: these ignore files are read, one after the other. After the rules before them
  -- come those of each that is there.
  pub data Adds : List IgnoreFile → List Rule → List Rule → S → S → Type 0 where
    nothing : {rules : List Rule} {state : S} → Adds [] rules rules state state
    there : {file : IgnoreFile} {files : List IgnoreFile} {text : List ℕ}
        {rules rules' : List Rule} {old middle new : S}
        → reads old (path_of file) (Ok text) middle → Adds files (rules ++ rules_in file.folder text) rules' middle new
        → Adds (file ∷ files) rules rules' old new
    absent : {file : IgnoreFile} {files : List IgnoreFile} {error : Error}
        {rules rules' : List Rule} {old middle new : S}
        → reads old (path_of file) (Err error) middle → IsAbsent error → Adds files rules rules' middle new
        → Adds (file ∷ files) rules rules' old new

  -- One of these ignore files is there and can't be read, after those before it were.
  pub record IsStopped (files : List IgnoreFile) (rules : List Rule) (error : Error) (old new : S) : Type 0 where
    pub before : List IgnoreFile
    pub file : IgnoreFile
    pub after : List IgnoreFile
    pub split : files ≡ before ++ file ∷ after
    pub rules' : List Rule
    pub middle : S
    pub adds : Adds before rules rules' old middle
    pub reason : Error
    pub fails : reads middle (path_of file) (Err reason) new
    pub is_there : ¬ IsAbsent reason
    pub same_kind : error_kind error ≡ error_kind reason

  -- the rules of these ignore files are not added: one of them stops it, or memory is refused
  abbrev pub FailsToAdd : List IgnoreFile → List Rule → S → S → Error → Type 0
  FailsToAdd files rules old new error = IsStopped files rules error old new ⊎ IsMemory error
