-- Worked values of literals, by computing. The expected ones are those that the standard and the project's tables name.
use Rattle.std.proofs.Common.{◌≡◌, [], ◌∷◌, ◌++◌, refl}
use Rattle.std.specs.Prelude.{codes, pos, negsuc, encode_utf8}
use lib.Utf8.{encode}
use Rattle.lexical_grammar.specs.Reads.{quoted_value}
use Rattle.lexical_grammar.specs.Strings.{StringCharacter, Quoted, none, one_more, pair, BlockString, escaped, closing}
use Rattle.lexical_grammar.specs.Values.{Lines, Block, block_string_value, IntOf}

-- LF, CR and CR LF end lines
four-lines : Lines (codes "\n\r\r\n") ≡ [] ∷ [] ∷ [] ∷ [] ∷ []
four-lines = refl

no-lines : Lines [] ≡ [] ∷ []
no-lines = refl

two-lines : Lines (codes "a\r\nb") ≡ codes "a" ∷ codes "b" ∷ []
two-lines = refl

-- the first line's indent counts for nothing, and the blank line at the end goes
first-line-keeps-indent : block_string_value (codes "  a\n    b\n\t\n") ≡ codes "  a\nb"
first-line-keeps-indent = refl

-- a blank line in the middle stays, without what the indent takes
blank-line-stays : block_string_value (codes "\n    x\n  \n    y\n") ≡ codes "x\n\ny"
blank-line-stays = refl

blank-text : block_string_value (codes "   ") ≡ []
blank-text = refl

lines-joined : block_string_value (codes "multi\r\nline") ≡ codes "multi\nline"
lines-joined = refl

greatest-whole : IntOf (codes "2147483647") ≡ pos 2147483647
greatest-whole = refl

least-whole : IntOf (codes "-2147483648") ≡ negsuc 2147483647
least-whole = refl

beyond-whole : IntOf (codes "2147483648") ≡ pos 2147483648
beyond-whole = refl

minus-nought : IntOf (codes "-0") ≡ pos 0
minus-nought = refl

-- what is between the quotes, and its value
escapes : quoted_value 0 (codes "a\\n\\\"\\/\\u0041\\u{1F4A9}") ≡ codes "a\n\"/A" ++ (240 ∷ 159 ∷ 146 ∷ 169 ∷ [])
unfolding encode
escapes = refl

surrogates : quoted_value 0 (codes "\\uD83D\\uDCA9") ≡ 240 ∷ 159 ∷ 146 ∷ 169 ∷ []
unfolding encode
surrogates = refl

-- a surrogate pair represents one character
pair-value : StringCharacter (codes "\\uD83D\\uDCA9") (encode_utf8 0x1F4A9)
pair-value = pair {high = codes "\\uD83D"} {high_digits = codes "D83D"} {low = codes "\\uDCA9"}
    {low_digits = codes "DCA9"}
    (record { spelled = refl; four = refl; hex = refl }) refl (record { spelled = refl; four = refl; hex = refl }) refl

pair-string : Quoted (codes "\"\\uD83D\\uDCA9\"") (240 ∷ 159 ∷ 146 ∷ 169 ∷ [])
unfolding encode
pair-string = record { inside = codes "\\uD83D\\uDCA9"; spelled = refl; characters = one_more pair-value none }

empty-string : Quoted (codes "\"\"") []
empty-string = record { inside = []; spelled = refl; characters = none }

-- `\"""` in a block string represents `"""`
quotes-value : BlockString (codes "\"\"\"\\\"\"\"\"\"\"") (codes "\"\"\"")
quotes-value = record { inside = codes "\\\"\"\"\"\"\""; spelled = refl; characters = escaped closing }

quotes-block : Block (codes "\"\"\"\\\"\"\"\"\"\"") (codes "\"\"\"")
quotes-block = record { raw = codes "\"\"\""; string = quotes-value; value_is = refl }
