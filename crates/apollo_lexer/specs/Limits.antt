-- The limits where none are set.
use Rattle.std.specs.Prelude.{ℕ}
use Rattle.lexical_grammar.specs.Answers.{usize_max}
use Rattle.apollo_lexer.specs.declared.limits.Limits.{Limits}

abbrev pub default_recursion : ℕ
default_recursion = 500

abbrev pub default_limits : Limits
default_limits = record { recursion = default_recursion; tokens = usize_max }
