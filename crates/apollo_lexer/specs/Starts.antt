-- What the first byte of an item says about it.
use Rattle.std.specs.Prelude.{ℕ, Bool, ◌==◌, ◌||◌, if◌then◌else◌, Option, Some, None}
use Rattle.lexical_grammar.specs.Characters.{is_name_start, is_digit, is_white_space, is_line_terminator}
use Rattle.lexical_grammar.specs.Reads.{punctuator}
use Rattle.lexical_grammar.specs.declared.TokenKind.{TokenKind}
use Rattle.apollo_lexer.specs.declared.bytes.Start.{Start}
use Rattle.apollo_lexer.specs.declared.bytes.Start.TheVariants.{Name, Number, Quote, NumberSign, Dot, Blank, Punctuator}
use Rattle.apollo_lexer.specs.declared.bytes.Start.TheVariants.{Other}

-- white space or a line terminator: a blank character of one byte
abbrev pub is_blank_byte : ℕ → Bool
is_blank_byte b = is_white_space b || is_line_terminator b

-- a punctuator's kind is known
abbrev pub other_start : Option TokenKind → Start
other_start (Some kind) = Punctuator kind
other_start None = Other

abbrev pub start_of : ℕ → Start
start_of b =
    if is_name_start b then Name
    else (if is_digit b || b == 45 then Number
    else (if b == 34 then Quote
    else (if b == 35 then NumberSign
    else (if b == 46 then Dot
    else (if is_white_space b || is_line_terminator b then Blank
    else other_start (punctuator b))))))
