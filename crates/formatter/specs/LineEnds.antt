-- Texts by the ends of their lines.
use Rattle.std.specs.List.{flat_map, prefix_len}
use Rattle.std.specs.Prelude.{◌≡◌, ℕ, not, if◌then◌else◌, List, [], ◌∷◌, ◌++◌, drop}
use Rattle.lexical_grammar.specs.Characters.{is_line_terminator}
use Rattle.lexical_grammar.specs.Strings.{begins}
use Rattle.lexical_grammar.specs.Values.{Lines}
use Rattle.formatter.specs.declared.line_ends.LineEnd.{LineEnd}
use Rattle.formatter.specs.declared.line_ends.LineEnd.TheVariants.{Lf, Crlf}

abbrev pub end_bytes : LineEnd → List ℕ
end_bytes Lf = 10 ∷ []
end_bytes Crlf = 13 ∷ 10 ∷ []

-- the lines, with this end between each two
abbrev pub joined_by : LineEnd → List (List ℕ) → List ℕ
joined_by end [] = []
joined_by end (line ∷ lines) = line ++ flat_map (λ next. end_bytes end ++ next) lines

-- the text with this end in place of each of its line ends
abbrev pub with_line_end : LineEnd → List ℕ → List ℕ
with_line_end end text = joined_by end (Lines text)

-- each line end of the text is this one
abbrev pub HasLineEnd : LineEnd → List ℕ → Type 0
HasLineEnd end text = text ≡ with_line_end end text

-- CR LF where the first line of the text ends so, or else LF
abbrev pub first_line_end : List ℕ → LineEnd
first_line_end text = if begins (13 ∷ 10 ∷ [])
    (drop (prefix_len (λ byte. not (is_line_terminator byte)) text) text) then Crlf else Lf
