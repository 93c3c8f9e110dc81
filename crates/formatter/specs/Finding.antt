-- The errors of a text that people see.
use Rattle.std.specs.Prelude.{ℕ, List}
use Rattle.apollo_lexer.specs.Diagnostics.{Diagnostic}
use Rattle.apollo_lexer.specs.declared.limits.Limits.{Limits}
use Rattle.apollo_parser.specs.Parsed.{Parsed}
use Rattle.apollo_parser.specs.Promise.{Promise}
use Rattle.first_errors.specs.First.{IsFirst}

-- Of the errors of the text's parse these are shown, at most `most`, and `more` is the number of the others.
pub record AreFirstOf (limits : Limits) (source : List ℕ) (most : ℕ) (shown : List Diagnostic) (more : ℕ) : Type 0 where
  pub parsed : Parsed
  pub promise : Promise source limits.recursion limits.tokens parsed
  pub first : IsFirst (record { whole = parsed.tree; index = 0 }) parsed.errors most shown more
