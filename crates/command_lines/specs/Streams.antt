-- What a program writes to its standard streams about itself, and about the words that it is called with.
use Rattle.std.specs.Prelude.{◌≡◌, ◌⊎◌, ℕ, List, ◌++◌, codes}
use Rattle.byte_streams.specs.Devices.{Account, moved}
use Rattle.byte_streams.specs.Writing.{IsBroken}
use Rattle.command_lines.specs.Misuse.{complaint}
use Rattle.command_lines.specs.declared.misuse.Mistake.{Mistake}

-- What went through standard input, standard output and standard error.
pub record Streams : Type 0 where
  pub input : Account
  pub output : Account
  pub complaints : Account

-- All of a text is written to standard error, or that broke off before its end.
abbrev pub IsSaid : List ℕ → Account → Account → Type 0
IsSaid text old new = (new ≡ moved old text) ⊎ IsBroken text old new

-- what a program of this name says where there is no memory for more
abbrev pub no_memory : List ℕ → List ℕ
no_memory program = program ++ codes ": out of memory\n"

-- What is wrong with a word is said, and how the program is called; only the latter where memory is refused.
abbrev pub Explains : List ℕ → List ℕ → List ℕ → Mistake → Account → Account → Type 0
Explains program usage word mistake old new =
    IsSaid (complaint program word mistake ++ usage) old new ⊎ IsSaid usage old new

-- what it says where it cannot write
abbrev pub no_output : List ℕ → List ℕ
no_output program = program ++ codes ": cannot write\n"

-- A page is written, with the status for it. Where that breaks off, it is said.
abbrev pub IsPrinted : List ℕ → List ℕ → ℕ → Account → Account → Account → Account → Type 0
IsPrinted program page status old new old_complaints new_complaints =
    ((status ≡ 0) × (new ≡ moved old page) × (new_complaints ≡ old_complaints))
    ⊎ ((status ≡ 2) × IsBroken page old new × IsSaid (no_output program) old_complaints new_complaints)

-- ---- what a run does that goes over no text

-- A page is printed, and nothing else is done.
abbrev pub OnlyPrints : List ℕ → List ℕ → ℕ → Streams → Streams → Type 0
OnlyPrints program page status old new =
    IsPrinted program page status old.output new.output old.complaints new.complaints × (new.input ≡ old.input)

-- A text is said, and nothing else is done.
abbrev pub OnlySays : List ℕ → ℕ → Streams → Streams → Type 0
OnlySays text status old new =
    (status ≡ 2) × IsSaid text old.complaints new.complaints × (new.output ≡ old.output) × (new.input ≡ old.input)

-- What is wrong with a word is said, and nothing else is done. `IsWrong` tells which words it may be. Which of them it
-- is, and what is wrong with it, is not stated.
abbrev pub OnlyExplains : List ℕ → List ℕ → (List ℕ → Type 0) → ℕ → Streams → Streams → Type 0
OnlyExplains program usage IsWrong status old new =
    (word : List ℕ) × (mistake : Mistake) × IsWrong word × (status ≡ 2)
    × Explains program usage word mistake old.complaints new.complaints
    × (new.output ≡ old.output) × (new.input ≡ old.input)
