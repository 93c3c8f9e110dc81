-- The words of `gqlfmt`: options and files in any order, each option at most once; or a page of the program.
use Rattle.std.specs.Prelude.{ℕ, List, codes, bytes_eq, map, if◌then◌else◌, Option, unwrap_or}
use Rattle.command_lines.specs.FilePrograms as files
use Rattle.command_lines.specs.Options.{Given, number, text}
use Rattle.command_lines.specs.declared.gqlfmt.LineEndings.{LineEndings}
use Rattle.command_lines.specs.declared.gqlfmt.LineEndings.TheVariants.{Lf, Crlf, Keep}
use Rattle.command_lines.specs.declared.gqlfmt.Mode.{Mode}
use Rattle.command_lines.specs.declared.gqlfmt.Mode.TheVariants.{Write, Check, Diff, Print}
use Rattle.command_lines.specs.declared.gqlfmt.TheConstants.{INPUT, OPTIONS}
use Rattle.command_lines.specs.declared.information.Request.{Request}

-- The request of the words: nothing where the program is not called so.
abbrev pub request_of : List (List ℕ) → Option (Request Given)
request_of words = files.request_of (map (λ row. (row.0.now, row.1.now, row.2)) OPTIONS) words

-- what is done with a text that formatting changes
abbrev pub mode_named : List ℕ → Mode
mode_named name =
    if bytes_eq name (codes "--check") then Check
    else (if bytes_eq name (codes "--diff") then Diff
    else (if bytes_eq name (codes "--print") then Print
    else Write))

abbrev pub mode_of : Given → Mode
mode_of given = mode_named (unwrap_or (text (codes "mode") given) (codes "--write"))

-- the greatest number of bytes of a formatted text, if one is given
abbrev pub most_output_of : Given → Option ℕ
most_output_of given = number (codes "--max-output") given

-- how its lines end
abbrev pub line_endings_named : List ℕ → LineEndings
line_endings_named name =
    if bytes_eq name (codes "crlf") then Crlf else (if bytes_eq name (codes "keep") then Keep else Lf)

abbrev pub line_endings_of : Given → LineEndings
line_endings_of given = line_endings_named (unwrap_or (text (codes "--line-endings") given) (codes "lf"))

-- what standard input is called
abbrev pub name_of : Given → List ℕ
name_of given = unwrap_or (text (codes "--stdin-filepath") given) INPUT.now
