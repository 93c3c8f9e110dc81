-- The signs of a pattern, by its bytes (gitignore(5), "PATTERN FORMAT"; sets of bytes as in glob(7)).
use Rattle.std.specs.List.{starts_with}
use Rattle.std.specs.Prelude.{◌≡◌, ◌==◌, ◌&&◌, ◌||◌, ◌++◌, not, eqb, ℕ, zero, suc, Bool, true, false, List, [], ◌∷◌}
use Rattle.std.specs.Prelude.{length, drop, codes, bytes_eq, Option, Some, None, option_map, option_and_then}
use Rattle.std.specs.Prelude.{if◌then◌else◌}
use Rattle.ignore_rules.specs.Fits.{Sign, byte, one, one_of, none_of, many, folders, nothing}
use Rattle.ignore_rules.specs.declared.pattern.Range.{Range}

-- something at the beginning of a text, and what follows it
pub record Front (X : Type 0) : Type 0 where
  pub value : X
  pub after : List ℕ

-- a byte in brackets: the one that a backslash quotes, or itself
abbrev pub byte_in : List ℕ → Option (Front ℕ)
byte_in [] = None
byte_in (b ∷ []) = Some (record { value = b; after = [] })
byte_in (b ∷ c ∷ text) =
    if b == 92 then Some (record { value = c; after = text }) else Some (record { value = b; after = c ∷ text })

abbrev pub range_to : ℕ → Front ℕ → Front Range
range_to first it = record { value = record { first = first; last = it.value }; after = it.after }

-- A byte, or all from a byte to another with a hyphen between them. The hyphen is a byte itself where a closing bracket
-- follows.
abbrev pub range_from : Front ℕ → Option (Front Range)
range_from it =
    if starts_with eqb it.after (codes "-") && not (starts_with eqb it.after (codes "-]"))
    then option_map (range_to it.value) (byte_in (drop 1 it.after))
    else Some (range_to it.value it)

abbrev pub range_in : List ℕ → Option (Front Range)
range_in text = option_and_then range_from (byte_in text)

abbrev pub with_range : Range → Front (List Range) → Front (List Range)
with_range range it = record { value = range ∷ it.value; after = it.after }

-- ranges after others
abbrev pub joined : List Range → Front (List Range) → Front (List Range)
joined before it = record { value = before ++ it.value; after = it.after }

-- whether a bracket that closes a set is here, if one may be
abbrev pub closes_at : Bool → List ℕ → Bool
closes_at closes text = closes && starts_with eqb text (codes "]")

-- The bytes before the bracket that closes them, if one does: at most n ranges. A bracket that comes first closes
-- nothing.
abbrev pub ranges_in : ℕ → Bool → List ℕ → Option (Front (List Range))
ranges_in zero closes text = None
ranges_in (suc n) closes text =
    if closes_at closes text then Some (record { value = []; after = drop 1 text })
    else option_and_then (λ range. option_map (with_range range.value) (ranges_in n true range.after)) (range_in text)

abbrev pub closed : (List Range → Sign) → Option (Front (List Range)) → Front Sign
closed set None = record { value = nothing; after = [] }
closed set (Some it) = record { value = set it.value; after = it.after }

-- whether a set is of the bytes that are not in brackets
abbrev pub is_inverse : List ℕ → Bool
is_inverse text = starts_with eqb text (codes "!") || starts_with eqb text (codes "^")

-- after an opening bracket
abbrev pub set_in : List ℕ → Front Sign
set_in text =
    if is_inverse text
    then closed none_of (ranges_in (length text) false (drop 1 text))
    else closed one_of (ranges_in (length text) false text)

-- After an asterisk. Where a name begins, two asterisks and a slash are any folders, and two at the end are any folders
-- and a name in them.
abbrev pub asterisk_in : Bool → List ℕ → Front Sign
asterisk_in begins text =
    if begins && starts_with eqb text (codes "*/") then record { value = folders; after = drop 2 text }
    else (if begins && bytes_eq text (codes "*") then record { value = folders; after = text }
    else record { value = many; after = text })

-- after a backslash
abbrev pub quoted_in : List ℕ → Front Sign
quoted_in [] = record { value = nothing; after = [] }
quoted_in (b ∷ text) = record { value = byte b; after = text }

-- The sign that begins with a byte, where a name begins or not: an asterisk, a question mark, an opening bracket, a
-- backslash, or another byte.
abbrev pub sign_in : Bool → ℕ → List ℕ → Front Sign
sign_in begins b text =
    if b == 42 then asterisk_in begins text
    else (if b == 63 then record { value = one; after = text }
    else (if b == 91 then set_in text
    else (if b == 92 then quoted_in text
    else record { value = byte b; after = text })))

-- whether a name begins after it
abbrev pub ends_name : Sign → Bool
ends_name (byte b) = b == 47
ends_name one = false
ends_name (one_of ranges) = false
ends_name (none_of ranges) = false
ends_name many = false
ends_name folders = true
ends_name nothing = false

-- the signs of a text, at most n
abbrev pub signs_in : ℕ → Bool → List ℕ → List Sign
signs_in zero begins text = []
signs_in (suc n) begins [] = []
signs_in (suc n) begins (b ∷ text) = let it = sign_in begins b text in
    it.value ∷ signs_in n (ends_name it.value) it.after

-- each of which has a byte
abbrev pub signs_of : List ℕ → List Sign
signs_of text = signs_in (length text) true text

-- One sign is put at the end of others. A name begins after it or not, and this is left of the text.
pub record IsPut (it : Front Sign) (old new : List Sign) (begins : Bool) (after : List ℕ) : Type 0 where
  pub signs : new ≡ old ++ it.value ∷ []
  pub begun : begins ≡ ends_name it.value
  pub left : after ≡ it.after
