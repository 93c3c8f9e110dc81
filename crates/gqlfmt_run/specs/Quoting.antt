-- Names in lines that other programs read, as git writes them: a name that would not come back from its line is in
-- quotes, with C's escapes.
use Rattle.std.specs.List.{flat_map, list_any, starts_with}
use Rattle.std.specs.Prelude.{ℕ, ◌+◌, ◌/◌, ◌%◌, Bool, ◌==◌, ◌||◌, List, [], ◌∷◌, ◌++◌, codes, encode_utf8}
use Rattle.std.specs.Prelude.{if◌then◌else◌, Option, Some, None, is_some}
use Rattle.std.specs.Prelude.{eqb}
use Rattle.std.specs.Str.{chars}
use Rattle.marked_lines.specs.Escaping.{is_unseen}

-- C's escape of a character, where it has one of its own
abbrev pub short_escape : ℕ → Option (List ℕ)
short_escape c =
    if c == 34 then Some (codes "\\\"")
    else (if c == 92 then Some (codes "\\\\")
    else (if c == 7 then Some (codes "\\a")
    else (if c == 8 then Some (codes "\\b")
    else (if c == 9 then Some (codes "\\t")
    else (if c == 10 then Some (codes "\\n")
    else (if c == 11 then Some (codes "\\v")
    else (if c == 12 then Some (codes "\\f")
    else (if c == 13 then Some (codes "\\r")
    else None))))))))

-- a byte as three octal digits after a backslash
abbrev pub octal : ℕ → List ℕ
octal b = 92 ∷ (48 + b / 64) ∷ (48 + b / 8 % 8) ∷ (48 + b % 8) ∷ []

-- a character has an escape if C has one for it, or if it is not seen
abbrev pub is_escaped : ℕ → Bool
is_escaped c = is_some (short_escape c) || is_unseen c

-- a character in quotes: its escape, the octal escapes of its bytes, or itself
abbrev pub quoted_or : Option (List ℕ) → ℕ → List ℕ
quoted_or (Some escape) c = escape
quoted_or None c = if is_unseen c then flat_map octal (encode_utf8 c) else encode_utf8 c

abbrev pub quoted_char : ℕ → List ℕ
quoted_char c = quoted_or (short_escape c) c

-- A name needs quotes where a character has an escape. It needs them too where it begins with a space, which patch
-- passes over.
abbrev pub needs_quotes : List ℕ → Bool
needs_quotes name = list_any is_escaped (chars name) || starts_with eqb name (codes " ")

abbrev pub quoted : List ℕ → List ℕ
quoted name = if needs_quotes name then codes "\"" ++ flat_map quoted_char (chars name) ++ codes "\"" else name

-- The name at the head of a diff: a tab after it says that its spaces are its own.
abbrev pub head_name : List ℕ → List ℕ
head_name name = if list_any (λ b. b == 32) name then quoted name ++ codes "\t" else quoted name
