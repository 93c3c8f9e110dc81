-- What a program says of a text that it could not read, or not write about.
use Rattle.std.specs.Prelude.{◌≡◌, ◌⊎◌, ℕ, List, [], ◌∷◌, ◌++◌, codes}
use Rattle.marked_lines.specs.Escaping.{shown}
use Rattle.byte_streams.specs.Devices.{Account}
use Rattle.byte_streams.specs.declared.fault.Fault.{Fault}
use Rattle.byte_streams.specs.declared.fault.Fault.TheVariants.{Read, Utf8, Memory, Write}
use Rattle.command_lines.specs.Streams.{IsSaid, no_memory}
use Rattle.command_lines.specs.declared.complaints.FileFault.{FileFault}
use Rattle.command_lines.specs.declared.complaints.FileFault.TheVariants.{NotRead, NotReplaced, Device}

-- a program's line about a file, or about standard input, with escapes for characters of its name that a terminal would
-- not show
abbrev pub line_about : List ℕ → List ℕ → List ℕ → List ℕ
line_about program name reason = program ++ codes ": " ++ shown name ++ codes ": " ++ reason ++ codes "\n"

abbrev pub reason_of : Fault → List ℕ
reason_of Read = codes "cannot read"
reason_of Utf8 = codes "not UTF-8"
reason_of Memory = codes "out of memory"
reason_of Write = codes "cannot write"

-- Why the text of this name has no outcome is said; or that there is no memory for that line.
abbrev pub Tells : List ℕ → List ℕ → Fault → Account → Account → Type 0
Tells program name fault old new =
    IsSaid (line_about program name (reason_of fault)) old new ⊎ IsSaid (no_memory program) old new

-- The name of a path: all of it, or all but the zero byte that a word which is not UTF-8 has at its end.
abbrev pub IsNameOf : List ℕ → List ℕ → Type 0
IsNameOf path name = (name ≡ path) ⊎ (path ≡ name ++ 0 ∷ [])

-- What could not be done with the file at a path is said, by its name, and then why, in words of the file system that
-- are not stated; or that there is no memory for that line.
abbrev pub TellsError : List ℕ → List ℕ → List ℕ → Account → Account → Type 0
TellsError program what path old new =
    ((name : List ℕ) × (words : List ℕ) × IsNameOf path name
    × IsSaid (line_about program name (what ++ codes ": " ++ words)) old new)
    ⊎ IsSaid (no_memory program) old new

-- why the file at a path has no outcome
abbrev pub TellsOfFile : List ℕ → List ℕ → FileFault → Account → Account → Type 0
TellsOfFile program path (Device fault) old new = Tells program path fault old new
TellsOfFile program path (NotRead error) old new = TellsError program (codes "cannot read") path old new
TellsOfFile program path (NotReplaced error) old new = TellsError program (codes "cannot replace") path old new
