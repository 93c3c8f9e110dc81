-- The data of an error, as its message and what it is about.
use Rattle.std.specs.Prelude.{◌≡◌, ℕ, ◌-◌, ◌≤◌, List, ◌++◌, take, drop, ⊤, string_bytes}
use Rattle.std.specs.Str.{IsCharBoundary}
use Rattle.apollo_lexer.specs.Diagnostics.{Subject, of_text, of_end, of_limit}
use Rattle.apollo_lexer.specs.declared.error_data.ErrorData.{ErrorData}
use Rattle.apollo_lexer.specs.declared.error_data.ErrorData.TheVariants.{Short, Long, Quoting, QuotingLong, Pair, Text}
use Rattle.apollo_lexer.specs.declared.error_data.ErrorData.TheVariants.{Eof, LimitExceeded}
use Rattle.apollo_lexer.specs.declared.error_data.MessageText.{MessageText}
use Rattle.apollo_lexer.specs.declared.error_data.MessageText.TheVariants.{Static, Owned}

abbrev pub words_text : {A : Type 0} → MessageText A → List ℕ
words_text (Static text) = text.now
words_text (Owned text) = string_bytes text

-- what lies between two offsets of a text
abbrev pub part : ℕ → ℕ → List ℕ → List ℕ
part start end text = take (end - start) (drop start text)

abbrev pub message_of : {A : Type 0} → ErrorData A → List ℕ
message_of (Short message text) = message.now
message_of (Long message text) = message.now
message_of (Quoting start end message) = message.bytes
message_of (QuotingLong start end message) = string_bytes message
message_of (Pair message text) = message.bytes
message_of (Text message text) = string_bytes message
message_of (Eof words) = words_text words
message_of (LimitExceeded words) = words_text words

abbrev pub subject_of : {A : Type 0} → ErrorData A → Subject
subject_of (Short message text) = of_text text.bytes
subject_of (Long message text) = of_text (string_bytes text)
subject_of (Quoting start end message) = of_text (part start end message.bytes)
subject_of (QuotingLong start end message) = of_text (part start end (string_bytes message))
subject_of (Pair message text) = of_text text.bytes
subject_of (Text message text) = of_text (string_bytes text)
subject_of (Eof words) = of_end
subject_of (LimitExceeded words) = of_limit

-- both offsets are between characters
abbrev pub IsPart : ℕ → ℕ → List ℕ → Type 0
IsPart start end text = (start ≤ end) × IsCharBoundary text start × IsCharBoundary text end

-- a message that quotes a text has it as a part
abbrev pub IsQuoting : {A : Type 0} → ErrorData A → Type 0
IsQuoting (Quoting start end message) = IsPart start end message.bytes
IsQuoting (QuotingLong start end message) = IsPart start end (string_bytes message)
IsQuoting _ = ⊤

-- the message is the words, an opening mark, the text and a closing mark
pub record Quotes {A : Type 0} (words opening text closing : List ℕ) (data_of : ErrorData A) : Type 0 where
  pub message : message_of data_of ≡ words ++ opening ++ text ++ closing
  pub subject : subject_of data_of ≡ of_text text
  pub quoting : IsQuoting data_of

-- an error's data with another allocator: it says the same
pub record Same {A B : Type 0} (d : ErrorData A) (e : ErrorData B) : Type 0 where
  pub message : message_of e ≡ message_of d
  pub subject : subject_of e ≡ subject_of d
  pub quoting : IsQuoting d → IsQuoting e
