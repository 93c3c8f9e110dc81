-- Which fault the message for bad text names. The standard says nothing of messages: the original's are the measure.
-- Where a bad string has several faults and an end, the last of them is named.
use Rattle.std.specs.Char.Utf16.{is_high_surrogate}
use Rattle.std.specs.List.{prefix_len}
use Rattle.std.specs.Prelude.{Bool, ℕ, zero, suc, ◌+◌, ◌-◌, ◌==◌, ◌&&◌, ◌||◌, nat_le, nat_lt, if◌then◌else◌, List, []}
use Rattle.std.specs.Prelude.{◌∷◌, take, drop, Option, Some, None}
use Rattle.lexical_grammar.specs.Characters.{is_digit, is_hex_digit, is_line_terminator}
use Rattle.lexical_grammar.specs.NumberStates.{run, live_len}
use Rattle.lexical_grammar.specs.Reads.{bad_escape_len, begins_fixed_escape, braced_digits_len, fixed_value}
use Rattle.lexical_grammar.specs.Reads.{string_character_len}
use Rattle.lexical_grammar.specs.Strings.{begins}
use Rattle.lexical_grammar.specs.declared.NumberState.TheVariants.{Begin}
use Rattle.apollo_lexer.specs.Faults.{fault_message, number_fault}
use Rattle.apollo_lexer.specs.declared.faults.LexFault.{LexFault}
use Rattle.apollo_lexer.specs.declared.faults.LexFault.TheVariants.{UnexpectedCharacter, UnterminatedSpread}
use Rattle.apollo_lexer.specs.declared.faults.LexFault.TheVariants.{UnfinishedString, UnterminatedString}
use Rattle.apollo_lexer.specs.declared.faults.LexFault.TheVariants.{LineTerminator, EscapedCharacter, IncompleteEscape}
use Rattle.apollo_lexer.specs.declared.faults.LexFault.TheVariants.{InvalidEscape, UnpairedSurrogate, NoScalarValue}

-- ---- escapes

-- the hex digits of `\u` at the front, however many
abbrev pub digits_len : List ℕ → ℕ
digits_len text = prefix_len is_hex_digit (drop 2 text)

-- `\u` without four hex digits is broken off by a quote or by another character; with them it is half of a surrogate
-- pair
abbrev pub fixed_fault : List ℕ → LexFault
fixed_fault text =
    if nat_le 4 (digits_len text) then UnpairedSurrogate
    else (if begins (34 ∷ []) (drop (2 + digits_len text) text) then IncompleteEscape else InvalidEscape)

-- `\u{` with its digits, by the character after them
abbrev pub braced_fault : List ℕ → LexFault
braced_fault after =
    if begins (125 ∷ []) after then NoScalarValue
    else (if begins (34 ∷ []) after then IncompleteEscape else InvalidEscape)

-- a leading surrogate is blamed on the escape after it, if there is one
abbrev pub has_second_escape : List ℕ → Bool
has_second_escape text =
    (begins_fixed_escape text && is_high_surrogate (fixed_value text)) && begins (92 ∷ 117 ∷ []) (drop 6 text)

abbrev pub escape_fault : List ℕ → LexFault
escape_fault text =
    if begins (92 ∷ 117 ∷ 123 ∷ []) text then braced_fault (drop (3 + braced_digits_len text) text)
    else (if begins (92 ∷ 117 ∷ []) text then
    (if has_second_escape text then fixed_fault (drop 6 text) else fixed_fault text)
    else EscapedCharacter)

-- ---- strings

-- the last fault, where this character comes next, or this escape
abbrev pub after_character : LexFault → ℕ → LexFault
after_character last c = if is_line_terminator c then LineTerminator else last

abbrev pub after_escape : LexFault → List ℕ → LexFault
after_escape last text = if nat_lt 0 (string_character_len text) then last else escape_fault text

-- the last fault of a bad string, whose first `inside` bytes belong to an escape
abbrev pub last_fault : LexFault → ℕ → List ℕ → LexFault
last_fault last inside [] = UnterminatedString
last_fault last (suc inside) (b ∷ bs) = last_fault last inside bs
last_fault last zero (b ∷ bs) =
    if b == 34 then last
    else (if b == 92 then last_fault (after_escape last (b ∷ bs)) (bad_escape_len (b ∷ bs) - 1) bs
    else last_fault (after_character last b) 0 bs)

-- of the text after an opening quote
abbrev pub string_fault : List ℕ → LexFault
string_fault [] = UnfinishedString
string_fault (b ∷ bs) =
    if begins (34 ∷ 34 ∷ []) (b ∷ bs) then UnterminatedString else last_fault UnterminatedString 0 (b ∷ bs)

-- ---- bad text

abbrev pub first : List ℕ → Option ℕ
first [] = None
first (b ∷ bs) = Some b

-- the fault of a text whose first n bytes begin a number
abbrev pub fault_behind : ℕ → List ℕ → LexFault
fault_behind n [] = UnexpectedCharacter
fault_behind n (b ∷ bs) =
    if b == 45 || is_digit b then number_fault (run Begin (take n (b ∷ bs))) (first (drop n (b ∷ bs)))
    else (if b == 34 then string_fault bs
    else (if b == 46 then UnterminatedSpread
    else UnexpectedCharacter))

-- the message for bad text: where it quotes a character, that is what follows the beginning of a number
abbrev pub bad_text_message : List ℕ → List ℕ
bad_text_message text = let n = live_len Begin text in fault_message (fault_behind n text) text (drop n text)
