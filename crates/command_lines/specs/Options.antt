-- The words of a command line: options, and files or standard input where a program takes some. A program's options are
-- a table.
use Rattle.std.specs.List.{filter_map, find}
use Rattle.std.specs.Prelude.{ℕ, Bool, false, true, ◌==◌, ◌&&◌, ◌||◌, not, List, [], ◌∷◌, ◌++◌, codes, bytes_eq}
use Rattle.std.specs.Prelude.{if◌then◌else◌, Option, Some, None, option_and_then, option_map, unwrap_or, is_some}
use Rattle.apollo_lexer.specs.Limits.{default_limits}
use Rattle.apollo_lexer.specs.declared.limits.Limits.{Limits}
use Rattle.command_lines.specs.Numbers.{number_of}
use Rattle.command_lines.specs.OwnValue.{has_own_value, option_name, own_value}
use Rattle.command_lines.specs.declared.options.Takes.{Takes}
use Rattle.command_lines.specs.declared.options.Takes.TheVariants.{Ignored, Nothing, Mode, Json}
use Rattle.command_lines.specs.declared.options.Takes.TheVariants.{Number as TakesNumber, LineEnding as TakesLineEnding}
use Rattle.command_lines.specs.declared.options.Takes.TheVariants.{Format as TakesFormat, Text as TakesText}
use Rattle.command_lines.specs.declared.options.Takes.TheVariants.{Texts as TakesTexts}
use Rattle.command_lines.specs.declared.options.Value.{Value}
use Rattle.command_lines.specs.declared.options.Value.TheVariants.{Flag, Number as NumberValue, Text as TextValue}

-- ---- options

-- an option's name, its short name or nothing, and what it takes
abbrev pub Row : Type 0
Row = List ℕ × List ℕ × Takes

-- The option that a word names. A name begins with a dash, so it is no short name of nothing.
abbrev pub row_called : List ℕ → List Row → Option Row
row_called name rows = find (λ row. bytes_eq name row.0 || bytes_eq name row.1) rows

-- what it sets: itself, the mode, or the format
abbrev pub key_of : Row → List ℕ
key_of (name, short, Mode) = codes "mode"
key_of (name, short, Json) = codes "--format"
key_of (name, short, takes) = name

-- what that is set to without a value, if the option takes none
abbrev pub alone : Row → Option (Value (List ℕ))
alone (name, short, Ignored) = Some Flag
alone (name, short, Nothing) = Some Flag
alone (name, short, Mode) = Some (TextValue name)
alone (name, short, Json) = Some (TextValue (codes "json"))
alone (name, short, takes) = None

abbrev pub is_line_ending : List ℕ → Bool
is_line_ending word = bytes_eq word (codes "lf") || bytes_eq word (codes "crlf") || bytes_eq word (codes "keep")

abbrev pub is_format : List ℕ → Bool
is_format word = bytes_eq word (codes "text") || bytes_eq word (codes "json") || bytes_eq word (codes "github")
    || bytes_eq word (codes "sarif")

-- and with a value
abbrev pub value_of : Takes → List ℕ → Option (Value (List ℕ))
value_of TakesNumber word = option_map NumberValue (number_of word)
value_of TakesLineEnding word = if is_line_ending word then Some (TextValue word) else None
value_of TakesFormat word = if is_format word then Some (TextValue word) else None
value_of TakesText word = Some (TextValue word)
value_of TakesTexts word = Some (TextValue word)
value_of takes word = None

-- ---- words

-- What words have given: settings by their keys, whether standard input is named by a dash, and files.
pub record Given : Type 0 where
  pub settings : List (List ℕ × Value (List ℕ))
  pub input : Bool
  pub files : List (List ℕ)

-- before the first word
abbrev pub nothing_given : Given
nothing_given = record { settings = []; input = false; files = [] }

-- what a key is set to
abbrev pub setting : List ℕ → Given → Option (Value (List ℕ))
setting key given = option_map (λ set. set.1) (find (λ set. bytes_eq set.0 key) given.settings)

-- whether an option may be set more than once
abbrev pub may_repeat : Takes → Bool
may_repeat TakesTexts = true
may_repeat takes = false

-- What an option sets is set to a value, once unless it may repeat. An option that is ignored sets nothing.
abbrev pub set_to : Row → Option (Value (List ℕ)) → Given → Option Given
set_to row None given = None
set_to (name, short, Ignored) (Some value) given = Some given
set_to row (Some value) given =
    if not (may_repeat row.2) && is_some (setting (key_of row) given) then None else Some
    (record given { settings = given.settings ++ (key_of row, value) ∷ [] })

-- an option is a dash with more; a dash alone is standard input
abbrev pub is_option : List ℕ → Bool
is_option [] = false
is_option (b ∷ []) = false
is_option (b ∷ c ∷ bytes) = b == 45

-- the option whose value is the word after it
abbrev pub awaiting : List Row → List ℕ → Option Row
awaiting rows word =
    if is_option word && not (has_own_value word) then option_and_then
    (λ row. if is_some (alone row) then None else Some row) (row_called word rows)
    else None

-- an option in a word alone, as `--name=value` or `--name`
abbrev pub with_option : List Row → List ℕ → Given → Option Given
with_option rows word given =
    if has_own_value word then option_and_then (λ row. set_to row (value_of row.2 (own_value word)) given)
    (row_called (option_name word) rows)
    else option_and_then (λ row. set_to row (alone row) given) (row_called word rows)

abbrev pub with_files : Given → List (List ℕ) → Given
with_files given files = record given { files = given.files ++ files }

-- standard input, once, or a file
abbrev pub with_file : List ℕ → Given → Option Given
with_file word given =
    if bytes_eq word (codes "-") then (if given.input then None else Some (record given { input = true })) else Some
    (with_files given (word ∷ []))

-- a program's options, and whether it takes files
module _ (rows : List Row) (takes_files : Bool) where
  -- a word that needs no other
  abbrev pub with_word : List ℕ → Given → Option Given
  with_word word given = if is_option word then with_option rows word given else
      (if takes_files then with_file word given else None)

  abbrev mutual
    -- What words give after others that gave this: nothing where the program is not called so. After `--` all words are
    -- files.
    pub given_from : Given → List (List ℕ) → Option Given
    given_from given [] = Some given
    given_from given (word ∷ more) =
        if takes_files && bytes_eq word (codes "--") then Some (with_files given more)
        else (if is_some (awaiting rows word) then given_after given (awaiting rows word) more
        else option_and_then (λ given. given_from given more) (with_word word given))

    -- the same after an option whose value is the next word
    pub given_after : Given → Option Row → List (List ℕ) → Option Given
    given_after given row [] = None
    given_after given row (value ∷ more) =
        option_and_then (λ given. given_from given more)
        (option_and_then (λ row. set_to row (value_of row.2 value) given) row)

-- ---- what is given

abbrev pub is_set : List ℕ → Given → Bool
is_set key given = is_some (setting key given)

abbrev pub as_number : Value (List ℕ) → Option ℕ
as_number (NumberValue n) = Some n
as_number value = None

abbrev pub as_text : Value (List ℕ) → Option (List ℕ)
as_text (TextValue text) = Some text
as_text value = None

abbrev pub number : List ℕ → Given → Option ℕ
number key given = option_and_then as_number (setting key given)

abbrev pub text : List ℕ → Given → Option (List ℕ)
text key given = option_and_then as_text (setting key given)

-- the texts that a key is set to, in their order
abbrev pub text_of : List ℕ → (List ℕ × Value (List ℕ)) → Option (List ℕ)
text_of key set = if bytes_eq set.0 key then as_text set.1 else None

abbrev pub texts_set : List ℕ → Given → List (List ℕ)
texts_set key given = filter_map (text_of key) given.settings

-- the parser's limits
abbrev pub limits_of : Given → Limits
limits_of given = record {
  recursion = unwrap_or (number (codes "--recursion") given) default_limits.recursion;
  tokens = unwrap_or (number (codes "--tokens") given) default_limits.tokens;
}
