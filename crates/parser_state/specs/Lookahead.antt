-- How many items are cut, by a reader and by its copies that look ahead.
use Rattle.std.specs.Prelude.{ℕ, ◌+◌, min, Bool, true, false, List, [], ◌∷◌, Option, Some, None}
use Rattle.lexical_grammar.specs.Answers.{Answer, gives, limit_at}
use Rattle.parser_rules.specs.State.{Lexeme, ignored}
use Rattle.apollo_lexer.specs.Answers.{final_high}
use Rattle.apollo_lexer.specs.declared.lexer.Lexer.{Lexer}

-- how many of the answers are items
abbrev pub given : List Answer → ℕ
given [] = 0
given (limit_at index ∷ rest) = given rest
given (gives item ∷ rest) = given rest + 1

-- how many of them a copy cuts until it finds the significant token after the current one
unfoldable pub looked : List Answer → ℕ
looked [] = 0
looked (limit_at index ∷ rest) = looked rest
looked (gives item ∷ rest) = elim item.kind [
  | None ↦ looked rest + 1
  | Some k ↦ elim (ignored k) [
    | Some leaf ↦ looked rest + 1
    | None ↦ 1
  ]
]

-- what a copy found, if it has looked, or else what is there
abbrev pub shown : Bool → Option Lexeme → Option Lexeme → Option Lexeme
shown false found there = there
shown true found there = found

-- how many of the items that are left a copy has cut already, if it has looked
abbrev pub spared : Bool → List Answer → ℕ
spared false answers = 0
spared true answers = looked answers

-- how many items a lexer gives in all
abbrev pub all_given : Lexer → ℕ
all_given l = min (final_high l) l.limit_tracker.limit
