-- The words of `gqlls`: options in any order, each limit at most once, or a page of the program. Editors add `--stdio`,
-- which changes nothing.
use Rattle.std.specs.Prelude.{ℕ, false, List, map, Option, option_map}
use Rattle.apollo_lexer.specs.declared.limits.Limits.{Limits}
use Rattle.command_lines.specs.Information.{information_of}
use Rattle.command_lines.specs.Options.{given_from, limits_of, nothing_given}
use Rattle.command_lines.specs.Words.{information_or_run}
use Rattle.command_lines.specs.declared.gqlls.TheConstants.{OPTIONS}
use Rattle.command_lines.specs.declared.information.Request.{Request}

-- The request of the words: the limits that they set, or nothing where the program is not called so.
abbrev pub request_of : List (List ℕ) → Option (Request Limits)
request_of words = information_or_run (information_of words)
    (option_map limits_of (given_from (map (λ row. (row.0.now, row.1.now, row.2)) OPTIONS) false nothing_given words))
