-- Which paths a pattern fits (gitignore(5), "PATTERN FORMAT").
use Rattle.std.specs.List.{list_any}
use Rattle.std.specs.Prelude.{◌==◌, ◌&&◌, ◌||◌, not, nat_le, ℕ, Bool, false, List, [], ◌∷◌, length}
use Rattle.ignore_rules.specs.declared.pattern.Range.{Range}
use Rattle.ignore_rules.specs.declared.pattern.Sign as declared
use Rattle.ignore_rules.specs.declared.pattern.Sign.TheVariants as sign

-- What a pattern is written with: a byte; `?`, any byte but a slash; a set in brackets, or all bytes but those and the
-- slash; `*`, any bytes but slashes; `**/`, any folders, each with its slash; and what fits nothing.
pub data Sign : Type 0 where
  byte : ℕ → Sign
  one : Sign
  one_of : List Range → Sign
  none_of : List Range → Sign
  many : Sign
  folders : Sign
  nothing : Sign

abbrev pub as_sign : {A : Type 0} → declared.Sign A → Sign
as_sign (sign.Byte b) = byte b
as_sign sign.One = one
as_sign (sign.OneOf ranges) = one_of ranges.items
as_sign (sign.NoneOf ranges) = none_of ranges.items
as_sign sign.Many = many
as_sign sign.Folders = folders
as_sign sign.Nothing = nothing

abbrev pub is_in : List Range → ℕ → Bool
is_in ranges b = list_any (λ range. nat_le range.first b && nat_le b range.last) ranges

-- whether a sign for one byte is for this one; 47 is the slash
abbrev pub takes : Sign → ℕ → Bool
takes (byte wanted) b = wanted == b
takes one b = not (b == 47)
takes (one_of ranges) b = not (b == 47) && is_in ranges b
takes (none_of ranges) b = not (b == 47) && not (is_in ranges b)
takes many b = false
takes folders b = false
takes nothing b = false

-- The sign takes the first byte, and the rest passes the test.
abbrev pub after_byte : Sign → (List ℕ → Bool) → List ℕ → Bool
after_byte sign test [] = false
after_byte sign test (b ∷ path) = takes sign b && test path

-- It passes the test after any bytes, none of which is a slash.
abbrev pub after_bytes : (List ℕ → Bool) → List ℕ → Bool
after_bytes test [] = test []
after_bytes test (b ∷ path) = test (b ∷ path) || (not (b == 47) && after_bytes test path)

-- What follows one of its slashes passes the test.
abbrev pub after_slash : (List ℕ → Bool) → List ℕ → Bool
after_slash test [] = false
after_slash test (b ∷ path) = (b == 47 && test path) || after_slash test path

abbrev pub after_sign : Sign → (List ℕ → Bool) → List ℕ → Bool
after_sign many test path = after_bytes test path
after_sign folders test path = test path || after_slash test path
after_sign sign test path = after_byte sign test path

-- These signs fit the whole path.
abbrev pub fits : List Sign → List ℕ → Bool
fits [] path = length path == 0
fits (sign ∷ signs) path = after_sign sign (fits signs) path
