-- What a lexer answers, one call of `next` after another.
use Rattle.std.specs.Iterator.{YieldsFirstBy}
use Rattle.std.specs.Prelude.{◌≡◌, ℕ, ◌+◌, ◌-◌, Bool, true, false, if◌then◌else◌, List, [], length, drop, Option, Some}
use Rattle.std.specs.Prelude.{None, Result, Ok, Err}
use Rattle.lexical_grammar.specs.Answers.{Answer, gives, limit_at, limited, is_given}
use Rattle.lexical_grammar.specs.Cut.{Item}
use Rattle.lexical_grammar.specs.Reads.{items_from}
use Rattle.apollo_lexer.specs.declared.lex_error.LexError.{LexError}
use Rattle.apollo_lexer.specs.declared.lexer.Lexer.{Lexer}
use Rattle.apollo_lexer.specs.declared.token.Token.{Token}

abbrev pub error_answer : Bool → List ℕ → ℕ → Answer
error_answer true text index = limit_at index
error_answer false text index = gives (record { kind = None; text = text; index = index })

-- what a lexer has answered, as an answer
abbrev pub answer_of : Result Token LexError → Answer
answer_of (Ok token) = gives (record { kind = Some token.kind; text = token.text.now; index = token.index })
answer_of (Err error) = error_answer error.is_limit error.text.now error.index

-- the items that are left, whatever the limit: none after the end, and none after the limit error
unfoldable pub items_left : Lexer → List Item
items_left l = if l.is_finished then [] else items_from l.index 0 l.rest.now

-- the answers that are left: as many of these items as the limit still allows, and the limit error when there are more
unfoldable pub answers_left : Lexer → List Answer
unfolding items_left
answers_left l = limited (l.limit_tracker.limit - l.limit_tracker.current) (items_left l)

-- the tracker's `high` when all that is left has been answered: each answer raises it by one
abbrev pub final_high : Lexer → ℕ
final_high l = l.limit_tracker.high + length (answers_left l)

-- the items that are left after a call of `next`: those after the item that it gave, and none after the limit error
abbrev pub items_after : Option (Result Token LexError) → List Item → List Item
items_after None items = items
items_after (Some answer) items = if is_given (answer_of answer) then drop 1 items else []

-- how many items a call of `next` cut: one, but none where it gave nothing or met the limit
abbrev pub cut_count : Option (Result Token LexError) → ℕ
cut_count None = 0
cut_count (Some answer) = if is_given (answer_of answer) then 1 else 0

-- what a call of `next` does: it answers, it leaves the items after that answer, and it keeps the limit
pub record Advances (old : Lexer) (result : Option (Result Token LexError)) (new : Lexer) : Type 0 where
  pub answers : YieldsFirstBy answer_of answers_left old result new
  pub items : items_left new ≡ items_after result (items_left old)
  pub high : final_high new ≡ final_high old
  pub limit : new.limit_tracker.limit ≡ old.limit_tracker.limit
