-- What a reader of items answers, one after another, where it may give a limited number of items.
use Rattle.std.specs.Prelude.{◌≡◌, ℕ, zero, suc, ◌-◌, ◌^◌, Bool, true, false, List, [], ◌∷◌, ◌++◌, ⊤, Option, Some}
use Rattle.std.specs.Prelude.{None, is_some}
use Rattle.lexical_grammar.specs.Cut.{Item}
use Rattle.lexical_grammar.specs.Tokens.{Tok}
use Rattle.lexical_grammar.specs.declared.TokenKind.{TokenKind}
use Rattle.lexical_grammar.specs.declared.TokenKind.TheVariants.{Eof}

-- an item, or that the limit is met, with the error's index
pub data Answer : Type 0 where
  gives : Item → Answer
  limit_at : ℕ → Answer

-- the greatest number of the target; as a limit it allows every item
abbrev pub usize_max : ℕ
usize_max = 2 ^ 64 - 1

-- the limit error's index: where the next item begins, or the last byte where that is the end of a text with some
abbrev pub limit_index_at : Option TokenKind → ℕ → ℕ
limit_index_at (Some Eof) offset = offset - 1
limit_index_at _ offset = offset

abbrev pub limit_index : Item → ℕ
limit_index item = limit_index_at item.kind item.index

-- the first `allowed` items, and the limit where there are more
abbrev pub limited : ℕ → List Item → List Answer
limited allowed [] = []
limited zero (item ∷ items) = limit_at (limit_index item) ∷ []
limited (suc allowed) (item ∷ items) = gives item ∷ limited allowed items

-- the answers that are tokens, and those that are not
abbrev pub is_token : Answer → Bool
is_token (gives item) = is_some item.kind
is_token (limit_at index) = false

-- an item, and not the limit
abbrev pub is_given : Answer → Bool
is_given (gives item) = true
is_given (limit_at index) = false

abbrev pub is_end : TokenKind → Bool
is_end Eof = true
is_end _ = false

-- the text of a token, and of the end
abbrev pub IsTokenText : TokenKind → List ℕ → Type 0
IsTokenText Eof text = text ≡ []
IsTokenText kind text = Tok kind text

abbrev pub IsItemText : Option TokenKind → List ℕ → Type 0
IsItemText None text = ⊤
IsItemText (Some kind) text = IsTokenText kind text

abbrev pub IsLast : Option TokenKind → List Answer → Type 0
IsLast None rest = ⊤
IsLast (Some kind) rest = is_end kind ≡ true → rest ≡ []

-- a token's text is one of its kind, and nothing comes after the end or after the limit error
abbrev pub AreAnswers : List Answer → Type 0
AreAnswers [] = ⊤
AreAnswers (limit_at index ∷ rest) = rest ≡ []
AreAnswers (gives item ∷ rest) = IsItemText item.kind item.text × IsLast item.kind rest × AreAnswers rest

-- the texts of the answers, joined
abbrev pub answer_text : Answer → List ℕ
answer_text (gives item) = item.text
answer_text (limit_at index) = []

abbrev pub answers_text : List Answer → List ℕ
answers_text [] = []
answers_text (answer ∷ rest) = answer_text answer ++ answers_text rest
