-- How long the text is that a parser has. It is a part of the source, so its length fits.
use Rattle.std.specs.Prelude.{ℕ, ◌+◌, List, [], ◌∷◌, length, Option, Some, None}
use Rattle.lexical_grammar.specs.Answers.{Answer, answer_text, answers_text}
use Rattle.document_grammar.specs.Builds.{Building, built_text}
use Rattle.parser_rules.specs.State.{State, Lexeme, PendingToken}

abbrev pub pending_length : List PendingToken → ℕ
pending_length [] = 0
pending_length (part ∷ parts) = length part.text + pending_length parts

abbrev pub current_length : Option Lexeme → ℕ
current_length None = 0
current_length (Some t) = length t.text

abbrev pub answer_length : Option Answer → ℕ
answer_length None = 0
answer_length (Some answer) = length (answer_text answer)

-- of the tree so far, the waiting text, the current token, and the rest
unfoldable pub text_length : Building → List PendingToken → Option Lexeme → List Answer → ℕ
text_length tree pending current items =
    length (built_text tree) + pending_length pending + current_length current + length (answers_text items)

abbrev pub length_of : State → ℕ
length_of s = text_length s.tree s.pending s.current s.items
