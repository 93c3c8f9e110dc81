-- The words of `gqlcst`: a mode, and then options in any order, each at most once; or a page of the program.
use Rattle.std.specs.Prelude.{ℕ, false, List, [], ◌∷◌, codes, bytes_eq, map, if◌then◌else◌, Option, Some, None}
use Rattle.std.specs.Prelude.{option_and_then, option_map}
use Rattle.apollo_lexer.specs.declared.limits.Limits.{Limits}
use Rattle.command_lines.specs.Information.{information_of}
use Rattle.command_lines.specs.Options.{given_from, limits_of, nothing_given}
use Rattle.command_lines.specs.Words.{information_or_run}
use Rattle.command_lines.specs.declared.gqlcst.Mode.{Mode}
use Rattle.command_lines.specs.declared.gqlcst.Mode.TheVariants.{Check, Tokens, Tree}
use Rattle.command_lines.specs.declared.gqlcst.TheConstants.{OPTIONS}
use Rattle.command_lines.specs.declared.information.Request.{Request}

-- the modes that the program has
abbrev pub mode_of : List ℕ → Option Mode
mode_of word =
    if bytes_eq word (codes "check") then Some Check
    else (if bytes_eq word (codes "tokens") then Some Tokens
    else (if bytes_eq word (codes "tree") then Some Tree
    else None))

abbrev pub command_of : List (List ℕ) → Option (Mode × Limits)
command_of [] = None
command_of (first ∷ more) =
    option_and_then (λ mode. option_map (λ given. (mode, limits_of given))
    (given_from (map (λ row. (row.0.now, row.1.now, row.2)) OPTIONS) false nothing_given more)) (mode_of first)

abbrev pub request_of : List (List ℕ) → Option (Request (Mode × Limits))
request_of words = information_or_run (information_of words) (command_of words)
