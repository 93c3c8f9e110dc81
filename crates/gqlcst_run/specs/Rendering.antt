-- What is written, line for line.
use Rattle.std.specs.Fmt.{decimal}
use Rattle.std.specs.List.{flat_map, AllZip}
use Rattle.std.specs.Prelude.{◌≡◌, ℕ, List, [], ◌∷◌, ◌++◌, length, codes, Option, Some, None, IfSome, count_by, not}
use Rattle.apollo_parser.specs.Answers.{Answer, gives, limit_at, is_token}
use Rattle.apollo_parser.specs.Cut.{Item}
use Rattle.apollo_parser.specs.Diagnostics.{Diagnostic}
use Rattle.apollo_parser.specs.LexErrors.{IsLexError}
use Rattle.apollo_parser.specs.Printed.{token_text, error_text}
use Rattle.apollo_parser.specs.declared.TokenKind.{TokenKind}

-- a text and a line feed
abbrev pub line : List ℕ → List ℕ
line text = text ++ 10 ∷ []

-- The text is the printed form of a value, where that is stated: where what it shows is ASCII.
abbrev pub IsForm : Option (List ℕ) → List ℕ → Type 0
IsForm stated text = IfSome stated (λ form. text ≡ form)

-- a line for each of the values, in order, with a form of it
pub record AreLines {A : Type 0} (IsFormOf : A → List ℕ → Type 0) (values : List A) (output : List ℕ) : Type 0 where
  pub forms : List (List ℕ)
  pub each : AllZip IsFormOf values forms
  pub joined : output ≡ flat_map line forms

-- the printed form of an error
abbrev pub IsErrorForm : Diagnostic → List ℕ → Type 0
IsErrorForm error text = IsForm (error_text error) text

-- a line for each error, and then the line that counts them
pub record IsReport (errors : List Diagnostic) (output : List ℕ) : Type 0 where
  pub lines : List ℕ
  pub each : AreLines IsErrorForm errors lines
  pub joined : output ≡ lines ++ line (codes "errors: " ++ decimal (length errors))

-- what mode check writes of a text with these errors
abbrev pub IsVerdict : List Diagnostic → List ℕ → Type 0
IsVerdict [] output = output ≡ line (codes "clean")
IsVerdict (error ∷ errors) output = IsReport (error ∷ errors) output

-- the printed form of the error for bad text, or for the limit
pub record IsLexErrorForm (answer : Answer) (text : List ℕ) : Type 0 where
  pub error : Diagnostic
  pub of_answer : IsLexError answer error
  pub form : IsErrorForm error text

-- the printed form of an item: of the token that it is, or of the error for it
abbrev pub IsItemForm : Option TokenKind → Item → List ℕ → Type 0
IsItemForm (Some kind) item text = IsForm (token_text kind item.text item.index) text
IsItemForm None item text = IsLexErrorForm (gives item) text

abbrev pub IsAnswerForm : Answer → List ℕ → Type 0
IsAnswerForm (gives item) text = IsItemForm item.kind item text
IsAnswerForm (limit_at index) text = IsLexErrorForm (limit_at index) text

-- how many of the answers are errors
abbrev pub error_count : List Answer → ℕ
error_count answers = count_by (λ answer. not (is_token answer)) answers

-- the text is this front, and then the printed form of a value
pub record IsFormAfter (front : List ℕ) (stated : Option (List ℕ)) (text : List ℕ) : Type 0 where
  pub form : List ℕ
  pub stated_form : IsForm stated form
  pub joined : text ≡ front ++ form
