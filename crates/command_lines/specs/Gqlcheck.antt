-- The words of `gqlcheck`: options and files in any order, each option at most once but for `--schema` and
-- `--fragments`; or a page of the program.
use Rattle.std.specs.Prelude.{ℕ, ◌-◌, ◌^◌, List, bytes_eq, codes, map, if◌then◌else◌, Option, unwrap_or}
use Rattle.cost_figures.specs.declared.figures.Figures.{Figures}
use Rattle.command_lines.specs.FilePrograms as files
use Rattle.command_lines.specs.Options.{Given, number, text}
use Rattle.command_lines.specs.declared.gqlcheck.Format.{Format}
use Rattle.command_lines.specs.declared.gqlcheck.Format.TheVariants.{Text, Json, Github, Sarif}
use Rattle.command_lines.specs.declared.gqlcheck.TheConstants.{OPTIONS}
use Rattle.command_lines.specs.declared.information.Request.{Request}

-- The request of the words: nothing where the program is not called so.
abbrev pub request_of : List (List ℕ) → Option (Request Given)
request_of words = files.request_of (map (λ row. (row.0.now, row.1.now, row.2)) OPTIONS) words

-- The greatest figure that an option allows. No figure exceeds a limit that no option has set.
abbrev pub most_named : List ℕ → Given → ℕ
most_named name given = unwrap_or (number name given) (2 ^ 64 - 1)

-- the greatest figures that an operation may have
abbrev pub most_of : Given → Figures
most_of given = record {
  depth = most_named (codes "--max-depth") given;
  fields = most_named (codes "--max-fields") given;
  root_fields = most_named (codes "--max-root-fields") given;
  aliases = most_named (codes "--max-aliases") given;
  directives = most_named (codes "--max-directives") given;
  height = most_named (codes "--max-height") given;
  distinct_root_fields = most_named (codes "--max-distinct-root-fields") given;
}

-- the name of the operation that has to be within them, or nothing for all operations
abbrev pub operation_of : Given → Option (List ℕ)
operation_of given = text (codes "--operation") given

-- in which form findings are printed
abbrev pub format_named : List ℕ → Format
format_named name =
    if bytes_eq name (codes "json") then Json
    else (if bytes_eq name (codes "github") then Github
    else (if bytes_eq name (codes "sarif") then Sarif
    else Text))

abbrev pub format_of : Given → Format
format_of given = format_named (unwrap_or (text (codes "--format") given) (codes "text"))
