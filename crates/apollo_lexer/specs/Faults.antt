-- What is wrong with bad text, and the words that say it.
use Rattle.std.specs.Prelude.{◌≡◌, ℕ, if◌then◌else◌, List, ◌++◌, drop, Option, Some, None, codes}
use Rattle.lexical_grammar.specs.Characters.{is_digit}
use Rattle.lexical_grammar.specs.declared.NumberState.{NumberState}
use Rattle.lexical_grammar.specs.declared.NumberState.TheVariants.{Minus, Zero, Integer, Point, ExponentIndicator}
use Rattle.lexical_grammar.specs.declared.NumberState.TheVariants.{ExponentSign}
use Rattle.apollo_lexer.specs.declared.faults.LexFault.{LexFault}
use Rattle.apollo_lexer.specs.declared.faults.LexFault.TheVariants.{UnexpectedCharacter, LeadingZero, NumberSuffix}
use Rattle.apollo_lexer.specs.declared.faults.LexFault.TheVariants.{IntegerSuffix, FractionalDigit, FloatSuffix}
use Rattle.apollo_lexer.specs.declared.faults.LexFault.TheVariants.{ExponentDigitOrSign, ExponentDigit, UnfinishedFloat}
use Rattle.apollo_lexer.specs.declared.faults.LexFault.TheVariants.{UnterminatedSpread, UnfinishedString}
use Rattle.apollo_lexer.specs.declared.faults.LexFault.TheVariants.{UnterminatedString, LineTerminator}
use Rattle.apollo_lexer.specs.declared.faults.LexFault.TheVariants.{EscapedCharacter, IncompleteEscape, InvalidEscape}
use Rattle.apollo_lexer.specs.declared.faults.LexFault.TheVariants.{UnpairedSurrogate, NoScalarValue}

-- a number that was read so far, where it ends with the text, or where a byte follows that can't go on with it
abbrev pub number_fault : NumberState → Option ℕ → LexFault
number_fault Minus None = UnexpectedCharacter
number_fault _ None = UnfinishedFloat
number_fault Minus (Some b) = NumberSuffix
number_fault Zero (Some b) = if is_digit b then LeadingZero else IntegerSuffix
number_fault Integer (Some b) = IntegerSuffix
number_fault Point (Some b) = FractionalDigit
number_fault ExponentIndicator (Some b) = ExponentDigitOrSign
number_fault ExponentSign (Some b) = ExponentDigit
number_fault _ (Some b) = FloatSuffix

-- a message that quotes nothing
abbrev pub words : LexFault → List ℕ
words LeadingZero = codes "Numbers must not have non-significant leading zeroes"
words UnfinishedFloat = codes "Unexpected EOF in float value"
words UnterminatedSpread = codes "Unterminated spread operator"
words UnfinishedString = codes "unexpected end of data while lexing string value"
words UnterminatedString = codes "unterminated string value"
words LineTerminator = codes "unexpected line terminator"
words EscapedCharacter = codes "unexpected escaped character"
words IncompleteEscape = codes "incomplete unicode escape sequence"
words InvalidEscape = codes "invalid unicode escape sequence"
words UnpairedSurrogate = codes "unpaired surrogate in unicode escape sequence"
words NoScalarValue = codes "unicode escape sequence must specify a Unicode scalar value"
words _ = codes "Unexpected character"

-- the message for a fault of the text, when `next` is the character after the beginning of a number
abbrev pub fault_message : LexFault → List ℕ → List ℕ → List ℕ
fault_message UnexpectedCharacter text next = codes "Unexpected character \"" ++ text ++ codes "\""
fault_message NumberSuffix text next = codes "Unexpected character `" ++ next ++ codes "`"
fault_message IntegerSuffix text next = codes "Unexpected character `" ++ next ++ codes "` as integer suffix"
fault_message FractionalDigit text next = codes "Unexpected character `" ++ next ++ codes "`, expected fractional digit"
fault_message FloatSuffix text next = codes "Unexpected character `" ++ next ++ codes "` as float suffix"
fault_message ExponentDigitOrSign text next =
    codes "Unexpected character `" ++ next ++ codes "`, expected exponent digit or sign"
fault_message ExponentDigit text next = codes "Unexpected character `" ++ next ++ codes "`, expected exponent digit"
fault_message fault text next = words fault

-- one of the messages for bad text; where it quotes a character, that is what follows the beginning of a number
pub record IsFaultMessage (text message : List ℕ) : Type 0 where
  pub fault : LexFault
  pub number_len : ℕ
  pub words : message ≡ fault_message fault text (drop number_len text)
