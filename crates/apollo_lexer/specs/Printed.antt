-- The printed forms of tokens, errors and trackers. Those with a text in them are stated where the text is ASCII.
use Rattle.std.specs.Fmt.{◌++?◌, debug_str}
use Rattle.std.specs.Prelude.{ℕ, ◌+◌, List, ◌++◌, length, codes, decimal, Option, Some}
use Rattle.lexical_grammar.specs.declared.TokenKind.{TokenKind}
use Rattle.lexical_grammar.specs.declared.TokenKind.TheVariants.{Whitespace, Comment, Bang, Dollar, Amp, Spread, Comma}
use Rattle.lexical_grammar.specs.declared.TokenKind.TheVariants.{Colon, Eq, At, LParen, RParen, LBracket, RBracket}
use Rattle.lexical_grammar.specs.declared.TokenKind.TheVariants.{LCurly, RCurly, Pipe, Eof, Name, StringValue, Int}
use Rattle.lexical_grammar.specs.declared.TokenKind.TheVariants.{Float}
use Rattle.apollo_lexer.specs.Diagnostics.{Subject, of_text, of_end, of_limit, Diagnostic, diagnostic_end}

-- as `recursion limit: 500, high: 1`
abbrev pub tracker_text : ℕ → ℕ → List ℕ
tracker_text limit high = codes "recursion limit: " ++ (decimal limit ++ (codes ", high: " ++ decimal high))

abbrev pub token_name : TokenKind → List ℕ
token_name Whitespace = codes "WHITESPACE"
token_name Comment = codes "COMMENT"
token_name Bang = codes "BANG"
token_name Dollar = codes "DOLLAR"
token_name Amp = codes "AMP"
token_name Spread = codes "SPREAD"
token_name Comma = codes "COMMA"
token_name Colon = codes "COLON"
token_name Eq = codes "EQ"
token_name At = codes "AT"
token_name LParen = codes "L_PAREN"
token_name RParen = codes "R_PAREN"
token_name LBracket = codes "L_BRACKET"
token_name RBracket = codes "R_BRACKET"
token_name LCurly = codes "L_CURLY"
token_name RCurly = codes "R_CURLY"
token_name Pipe = codes "PIPE"
token_name Eof = codes "EOF"
token_name Name = codes "NAME"
token_name StringValue = codes "STRING_VALUE"
token_name Int = codes "INT"
token_name Float = codes "FLOAT"

-- a name, and from where to where
abbrev pub range_text : List ℕ → ℕ → ℕ → List ℕ
range_text name start end = name ++ (codes "@" ++ (decimal start ++ (codes ":" ++ decimal end)))

-- as `NAME@5:10 "Query"`, and `EOF@3:3` for the end
abbrev pub token_text : TokenKind → List ℕ → ℕ → Option (List ℕ)
token_text Eof text index = Some (range_text (token_name Eof) index (index + length text))
token_text kind text index =
    Some (range_text (token_name kind) index (index + length text)) ++? (Some (codes " ") ++? debug_str text)

abbrev pub subject_shown : Subject → List ℕ
subject_shown (of_text text) = text
subject_shown of_end = codes "EOF"
subject_shown of_limit = codes ""

-- as `ERROR@5:6 "expected COLON, got )" )`
abbrev pub error_text : Diagnostic → Option (List ℕ)
error_text d = Some (range_text (codes "ERROR") d.index (diagnostic_end d)) ++?
    (Some (codes " ") ++? (debug_str d.message ++? (Some (codes " ") ++? Some (subject_shown d.subject))))
