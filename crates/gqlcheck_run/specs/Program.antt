-- What a run of the program does, by the request in its words.
use Rattle.std.specs.Prelude.{◌≡◌, ◌⊎◌, ◌++◌, ℕ, zero, suc, max, Bool, List, [], ◌∷◌, codes, length, Option}
use Rattle.std.specs.Prelude.{Some, None, Result, if◌then◌else◌, unwrap_or}
use Rattle.std.specs.declared.io.Error.{Error}
use Rattle.validation_rules.specs.declared.selection.RuleSet.{RuleSet}
use Rattle.cost_limits.specs.declared.introspection.Introspection.{Introspection}
use Rattle.cost_limits.specs.declared.introspection.Introspection.TheVariants.{Counted, LeftOut}
use Rattle.document_checks.specs.Checking.{Asked}
use Rattle.byte_streams.specs.Devices.{Account}
use Rattle.file_access.specs.Listing.{Listing}
use Rattle.command_lines.specs.Gqlcheck.{format_of, most_of, operation_of, request_of}
use Rattle.command_lines.specs.Misuse.{IsAmong}
use Rattle.command_lines.specs.Options.{Given, is_set, limits_of, number, text, texts_set}
use Rattle.command_lines.specs.Streams.{Explains, IsSaid, OnlyPrints, OnlySays, OnlyExplains, no_memory}
use Rattle.command_lines.specs.Words.{texts}
use Rattle.command_lines.specs.declared.information.Information.{Information}
use Rattle.command_lines.specs.declared.information.Information.TheVariants.{Help, Version}
use Rattle.command_lines.specs.declared.information.Request.{Request}
use Rattle.command_lines.specs.declared.information.Request.TheVariants.{Print, Process}
use Rattle.command_lines.specs.declared.misuse.WordsError.{WordsError}
use Rattle.command_lines.specs.declared.misuse.WordsError.TheVariants.{Memory, Usage}
use Rattle.named_files.specs.Handling.{InTurn, State, streams}
use Rattle.gqlcheck_run.specs.Framing.{Closes, opening}
use Rattle.gqlcheck_run.specs.Inputs.{Input, bytes_in, default_steps, no_texts}
use Rattle.gqlcheck_run.specs.Judging.{JudgesTexts}
use Rattle.gqlcheck_run.specs.Reading.{Reading, ReadsPath, ReadsTexts}
use Rattle.gqlcheck_run.specs.Rules.{AreRules, IsUnknownRule, names_of}
use Rattle.gqlcheck_run.specs.declared.command.TheConstants.{PROGRAM, USAGE, HELP, VERSION}
use Rattle.gqlcheck_run.specs.declared.job.Printing.{Printing}
use Rattle.gqlcheck_run.specs.declared.program.Paths as declared_paths

abbrev pub information_text : Information → List ℕ
information_text Help = HELP.now
information_text Version = VERSION.now

-- the names of the rules that are allowed, and of those that are warned of
abbrev pub allowed_by : Given → List (List ℕ)
allowed_by given = names_of (text (codes "--allow") given)

abbrev pub warned_by : Given → List (List ℕ)
warned_by given = names_of (text (codes "--warn") given)

-- whether the fields count that introspect the schema
abbrev pub introspection_of : Given → Introspection
introspection_of given = if is_set (codes "--without-introspection") given then LeftOut else Counted

-- what a run is about, by the rules that it judges and those of which it warns
abbrev pub asked_by : Given → RuleSet → RuleSet → Asked
asked_by given rules warnings = record {
  limits = limits_of given;
  most = most_of given;
  introspection = introspection_of given;
  operation = operation_of given;
  judged = None;
  schema = None;
  rules = rules;
  warnings = warnings;
  steps = number (codes "--max-steps") given;
}

-- How many texts are those of the schema, if paths of one are given: as many as were read. Where one of its files was
-- not read, nothing is judged by it.
abbrev pub schema_texts : List (List ℕ) → ℕ → ℕ → Option ℕ
schema_texts [] status count = None
schema_texts (path ∷ paths) zero count = Some count
schema_texts (path ∷ paths) (suc n) count = None

-- The same for texts, of which some are those of a schema, and as many as this are judged. The others are known only.
-- If no number of steps is given, it is by the bytes of all texts.
abbrev pub asked_of : Asked → Option ℕ → ℕ → List Input → Asked
asked_of asked schema judged inputs = record asked {
  schema = schema;
  judged = Some judged;
  steps = Some (unwrap_or asked.steps (default_steps (bytes_in inputs)));
}

-- Why there is nothing to carry out is said, with status 2.
abbrev pub Refuses : WordsError → ℕ → Account → Account → Type 0
Refuses (Usage misuse) status old new =
    (status ≡ 2) × Explains PROGRAM.now USAGE.now misuse.word.now misuse.mistake old new
Refuses Memory status old new = (status ≡ 2) × IsSaid (no_memory PROGRAM.now) old new

-- what it prints of texts
abbrev pub printing_of : Given → Printing
printing_of given = record { figures = is_set (codes "--figures") given; format = format_of given }

-- the paths whose texts are judged, those whose texts are known, and those of a schema
pub record Paths : Type 0 where
  pub judged : List (List ℕ)
  pub known : List (List ℕ)
  pub schema : List (List ℕ)

-- the same as the code has them
abbrev pub as_paths : declared_paths.Paths → Paths
as_paths paths = record {
  judged = texts paths.judged.now;
  known = texts paths.known.now;
  schema = texts paths.schema.now;
}

abbrev pub paths_of : Given → Paths
paths_of given = record {
  judged = given.files;
  known = texts_set (codes "--fragments") given;
  schema = texts_set (codes "--schema") given;
}

-- the files, as a trait tells what three of its calls do
module _ {S : Type 0} (lists : S → List ℕ → Listing → S → Type 0) (omits : S → List ℕ → Result Bool Error → S → Type 0)
    (reads : S → List ℕ → Result (List ℕ) Error → S → Type 0) where
  -- The texts of the schema are read, then those that are judged, and then those that are known. Those that were read
  -- are judged together, the schema's too. The status is the greatest of all.
  pub record ChecksTexts (asked : Asked) (printing : Printing) (paths : Paths) (status : ℕ)
      (old new : State S) : Type 0 where
    pub schema : Reading S
    pub defined : ℕ
    pub reads_schema : InTurn (ReadsPath lists omits reads) paths.schema defined
        (record { files = old.files; complaints = old.complaints; texts = no_texts }) schema
    pub first : Reading S
    pub read : ℕ
    pub reads_all : ReadsTexts lists omits reads paths.judged read old.input new.input schema first
    pub all : Reading S
    pub added : ℕ
    pub reads_known : InTurn (ReadsPath lists omits reads) paths.known added first all
    pub files : new.files ≡ all.files
    pub found : ℕ
    pub judges : JudgesTexts
        (asked_of asked (schema_texts paths.schema defined (length schema.texts.inputs)) (length first.texts.inputs)
        all.texts.inputs)
        printing all.texts.inputs found
        (record { output = old.output; complaints = all.complaints })
        (record { output = new.output; complaints = new.complaints })
    pub greatest : status ≡ max (max (max defined read) added) found

  -- That is done, and what comes after the texts is printed.
  pub record ChecksAndCloses (asked : Asked) (printing : Printing) (paths : Paths) (status : ℕ)
      (old new : State S) : Type 0 where
    pub checked : State S
    pub texts : ℕ
    pub checks : ChecksTexts asked printing paths texts old checked
    pub closes : Closes printing texts status checked.output new.output checked.complaints new.complaints
    pub input : new.input ≡ checked.input
    pub files : new.files ≡ checked.files

  -- The same by the status of the output before the texts. Where that broke off, nothing else is done.
  abbrev pub Continues : Asked → Printing → Paths → ℕ → ℕ → State S → State S → Type 0
  Continues asked printing paths zero status old new = ChecksAndCloses asked printing paths status old new
  Continues asked printing paths (suc n) status old new = (status ≡ suc n) × (new ≡ old)

  -- What comes before the texts is printed, and then that is done.
  pub record ChecksAll (asked : Asked) (printing : Printing) (paths : Paths) (status : ℕ)
      (old new : State S) : Type 0 where
    pub opened : State S
    pub printed : ℕ
    pub opens : OnlyPrints PROGRAM.now (opening printing.format) printed (streams old) (streams opened)
    pub files : opened.files ≡ old.files
    pub continues : Continues asked printing paths printed status opened new

  -- The same by the rules that words name. Where no rule has one of the names, that is said, and nothing else is done.
  abbrev pub ChecksBy : Given → ℕ → State S → State S → Type 0
  ChecksBy given status old new =
      ((rules : RuleSet) × (warnings : RuleSet) × AreRules (allowed_by given) (warned_by given) rules warnings
      × ChecksAll (asked_by given rules warnings) (printing_of given) (paths_of given) status old new)
      ⊎ (OnlyExplains PROGRAM.now USAGE.now (IsUnknownRule (allowed_by given ++ warned_by given)) status (streams old)
      (streams new) × (new.files ≡ old.files))

  -- That is done, or it is said that memory was refused before the last of the names was read, and nothing else.
  abbrev pub ChecksIfRules : Given → ℕ → State S → State S → Type 0
  ChecksIfRules given status old new =
      ChecksBy given status old new
      ⊎ (OnlySays (no_memory PROGRAM.now) status (streams old) (streams new) × (new.files ≡ old.files))

  -- What a run does for the request in its words. Where there is none, a word is wrong.
  abbrev pub Does : List (List ℕ) → Option (Request Given) → ℕ → State S → State S → Type 0
  Does words (Some (Print page)) status old new =
      OnlyPrints PROGRAM.now (information_text page) status (streams old) (streams new) × (new.files ≡ old.files)
  Does words (Some (Process given)) status old new = ChecksBy given status old new
  Does words None status old new =
      OnlyExplains PROGRAM.now USAGE.now (IsAmong words) status (streams old) (streams new) × (new.files ≡ old.files)

  -- What a run does: that, or it says that memory was refused before the last of its words or names was read, and
  -- nothing else.
  abbrev pub Runs : List (List ℕ) → ℕ → State S → State S → Type 0
  Runs words status old new =
      Does words (request_of words) status old new
      ⊎ (OnlySays (no_memory PROGRAM.now) status (streams old) (streams new) × (new.files ≡ old.files))
