-- The words of a program that takes files: a page of the program, or a run over files, or over standard input where
-- there are none.
use Rattle.std.specs.Prelude.{ℕ, true, ◌&&◌, nat_lt, List, length, if◌then◌else◌, Option, Some, None, option_and_then}
use Rattle.command_lines.specs.Information.{information_of}
use Rattle.command_lines.specs.Options.{Given, Row, given_from, nothing_given}
use Rattle.command_lines.specs.Words.{information_or_run}
use Rattle.command_lines.specs.declared.information.Request.{Request}

-- Standard input is named or files are, not both.
abbrev pub not_both : Given → Option Given
not_both given = if given.input && nat_lt 0 (length given.files) then None else Some given

abbrev pub request_of : List Row → List (List ℕ) → Option (Request Given)
request_of rows words =
    information_or_run (information_of words) (option_and_then not_both (given_from rows true nothing_given words))
