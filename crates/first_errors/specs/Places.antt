-- Where the errors of a text are shown.
use Rattle.std.specs.Prelude.{◌≡◌, ℕ, List, ◌∷◌, length, min, if◌then◌else◌}
use Rattle.std.specs.Str.{trim_end}
use Rattle.apollo_parser.specs.Diagnostics.{Diagnostic, is_end_subject}
use Rattle.apollo_parser.specs.Parsed.{Parsed}
use Rattle.apollo_parser.specs.Promise.{Promise}
use Rattle.apollo_parser.specs.declared.Limits.{Limits}

-- An error at the end of a text is shown after the last character that is no white space, and any other error where it
-- is. None is beyond the text.
abbrev pub shown_at : List ℕ → Diagnostic → ℕ
shown_at text error = min (if is_end_subject error.subject then length (trim_end text) else error.index) (length text)

-- This is the first error of the parse of the text.
pub record IsFirstErrorOf (limits : Limits) (source : List ℕ) (error : Diagnostic) : Type 0 where
  pub parsed : Parsed
  pub promise : Promise source limits.recursion limits.tokens parsed
  pub others : List Diagnostic
  pub first : parsed.errors ≡ error ∷ others
