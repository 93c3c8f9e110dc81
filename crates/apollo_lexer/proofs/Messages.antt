-- Messages for bad text are ASCII where the text is, and none is a limit's.
use Rattle.std.proofs.Common.{◌≡◌, ℕ, Bool, true, false, ◌||◌, eqb, List, [], ◌∷◌, ◌++◌, drop, refl, sym, ap, ◌∙◌}
use Rattle.std.proofs.Common.{subst, true≢false}
use Rattle.std.proofs.lemmas.Bool.{ltb-true}
use Rattle.std.proofs.lemmas.Str.{IsAscii-append, IsAscii-drop}
use Rattle.std.specs.Char.{is_ascii}
use Rattle.std.specs.List.{list_all}
use Rattle.std.specs.Prelude.{codes}
use Rattle.std.specs.Str.{IsAscii}
use Rattle.lexical_grammar.proofs.Sound.{ascii-run}
use Rattle.lexical_grammar.specs.NumberStates.{live_len}
use Rattle.lexical_grammar.specs.declared.NumberState.TheVariants.{Begin}
use Rattle.apollo_lexer.specs.BadText.{bad_text_message, fault_behind}
use Rattle.apollo_lexer.specs.Faults.{words, fault_message, IsFaultMessage}
use Rattle.apollo_lexer.specs.declared.faults.LexFault.{LexFault}
use Rattle.apollo_lexer.specs.declared.faults.LexFault.TheVariants.{UnexpectedCharacter, NumberSuffix, IntegerSuffix}
use Rattle.apollo_lexer.specs.declared.faults.LexFault.TheVariants.{FractionalDigit, FloatSuffix, ExponentDigitOrSign}
use Rattle.apollo_lexer.specs.declared.faults.LexFault.TheVariants.{ExponentDigit}

-- what computes to ASCII is ASCII
pub ascii-text : (xs : List ℕ) → list_all is_ascii xs ≡ true → IsAscii xs
ascii-text xs h = ascii-run is_ascii (λ c e. ltb-true c 128 e) xs h

all_ascii : (fault : LexFault) → list_all is_ascii (words fault) ≡ true
all_ascii UnexpectedCharacter = refl
all_ascii _ = refl

words-ascii : (fault : LexFault) → IsAscii (words fault)
words-ascii fault = ascii-text (words fault) (all_ascii fault)

-- a message that quotes a text
quoting : (front text back : List ℕ) → list_all is_ascii front ≡ true → list_all is_ascii back ≡ true → IsAscii text
    → IsAscii (front ++ text ++ back)
quoting front text back f b h =
    IsAscii-append (front ++ text) back (IsAscii-append front text (ascii-text front f) h) (ascii-text back b)

message_ascii : (fault : LexFault) (text next : List ℕ) → IsAscii text → IsAscii next
    → IsAscii (fault_message fault text next)
message_ascii UnexpectedCharacter text next h k =
    quoting (codes "Unexpected character \"") text (codes "\"") refl refl h
message_ascii NumberSuffix text next h k = quoting (codes "Unexpected character `") next (codes "`") refl refl k
message_ascii IntegerSuffix text next h k =
    quoting (codes "Unexpected character `") next (codes "` as integer suffix") refl refl k
message_ascii FractionalDigit text next h k =
    quoting (codes "Unexpected character `") next (codes "`, expected fractional digit") refl refl k
message_ascii FloatSuffix text next h k =
    quoting (codes "Unexpected character `") next (codes "` as float suffix") refl refl k
message_ascii ExponentDigitOrSign text next h k =
    quoting (codes "Unexpected character `") next (codes "`, expected exponent digit or sign") refl refl k
message_ascii ExponentDigit text next h k =
    quoting (codes "Unexpected character `") next (codes "`, expected exponent digit") refl refl k
message_ascii fault text next h k = words-ascii fault

pub fault-ascii : (text message : List ℕ) → IsFaultMessage text message → IsAscii text → IsAscii message
fault-ascii text message m h =
    subst IsAscii (sym m.words)
    (message_ascii m.fault text (drop m.number_len text) h (IsAscii-drop text m.number_len h))

-- the letters that messages for bad text begin with: `N`, `U`, `i` and `u`
abbrev pub begins_fault : List ℕ → Bool
begins_fault [] = false
begins_fault (c ∷ text) = eqb c 78 || eqb c 85 || eqb c 105 || eqb c 117

fault-begins : (fault : LexFault) (text next : List ℕ) → begins_fault (fault_message fault text next) ≡ true
fault-begins UnexpectedCharacter text next = refl
fault-begins _ text next = refl

-- a text that begins otherwise is not a message for bad text
pub no-fault-message : (text message : List ℕ) → IsFaultMessage text message → begins_fault message ≡ false → ⊥
no-fault-message text message m h =
    true≢false (sym (ap begins_fault m.words ∙ fault-begins m.fault text (drop m.number_len text)) ∙ h)

-- the message for bad text is one of its list
pub is-fault-message : (text message : List ℕ) → message ≡ bad_text_message text → IsFaultMessage text message
is-fault-message text message m =
    record { fault = fault_behind (live_len Begin text) text; number_len = live_len Begin text; words = m }
