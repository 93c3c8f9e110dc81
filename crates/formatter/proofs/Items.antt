-- How many items a text has.
use Rattle.std.proofs.Common.{◌≡◌, ◌∙◌, ◌+◌, ◌<◌, ◌^◌, ℕ, List, length, ap, arith}
use Rattle.std.proofs.lemmas.Bool.Decides.{nat_tests}
use Rattle.std.proofs.lemmas.Iterator.Consumers.{YieldsList-from_shown, count_from_yields_List}
use Rattle.std.specs.Iterator.{Drains}
use Rattle.std.specs.Prelude.{Result, min}
use Rattle.lexical_grammar.specs.Answers.{limited, usize_max}
use Rattle.lexical_grammar.specs.Reads.{items_of}
use Rattle.apollo_lexer.proofs.Law.{answers-fit, limited-length}
use Rattle.apollo_lexer.specs.Answers.{answers_left, answer_of, Advances}
use Rattle.apollo_lexer.specs.declared.lex_error.LexError.{LexError}
use Rattle.apollo_lexer.specs.declared.lexer.Lexer.{Lexer}
use Rattle.apollo_lexer.specs.declared.token.Token.{Token}

-- a lexer without a limit gives as many answers as the text has items
pub counted : (lexer : Lexer) (text : List ℕ) (n : ℕ) → answers_left lexer ≡ limited usize_max (items_of text)
    → ((xs : List (Result Token LexError)) × Drains Advances lexer xs × (n ≡ length xs)) → n ≡ length (items_of text)
counted lexer text n left ran =
    let all : n ≡ length (answers_left lexer) =
    count_from_yields_List lexer n ran
    (YieldsList-from_shown Advances answer_of answers_left (λ t u h. ap length h.answers.0)
    (λ t x u h. h.answers) lexer) in
    fits n (length (items_of text)) (length (limited usize_max (items_of text))) (all ∙ ap length left)
    (limited-length usize_max (items_of text))
    (omega (arith, answers-fit lexer, all, ap length left))
  where
    fits : (n m a : ℕ) → n ≡ a → a ≡ min m (usize_max + 1) → a < 2 ^ 64 → n ≡ m
    fits n m a e f less = grind (arith, nat_tests)
