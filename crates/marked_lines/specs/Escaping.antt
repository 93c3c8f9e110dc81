-- Texts as they are shown on a terminal.
use Rattle.std.specs.Char.Escape.{escape_unicode}
use Rattle.std.specs.List.{flat_map}
use Rattle.std.specs.Prelude.{ℕ, Bool, true, false, ◌&&◌, not, ◌==◌, List, [], ◌∷◌, if◌then◌else◌, encode_utf8_all}
use Rattle.std.specs.Str.{chars}
use Rattle.ucd_category.specs.GeneralCategory.{general_category}
use Rattle.ucd_category.specs.declared.GeneralCategory.{GeneralCategory}
use Rattle.ucd_category.specs.declared.GeneralCategory.TheVariants.{Control, Format, LineSeparator, ParagraphSeparator}

-- the categories of Unicode whose characters are not seen, or move others
abbrev pub is_unseen_category : GeneralCategory → Bool
is_unseen_category Control = true
is_unseen_category Format = true
is_unseen_category LineSeparator = true
is_unseen_category ParagraphSeparator = true
is_unseen_category _ = false

-- a character of these, but the tab
abbrev pub is_unseen : ℕ → Bool
is_unseen c = not (c == 9) && is_unseen_category (general_category c)

-- the characters that are shown for one, as `\u{202e}` for an unseen one
abbrev pub shown_char : ℕ → List ℕ
shown_char c = if is_unseen c then escape_unicode c else c ∷ []

-- the bytes that are shown for a text
abbrev pub shown : List ℕ → List ℕ
shown text = encode_utf8_all (flat_map shown_char (chars text))
