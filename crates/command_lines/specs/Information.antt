-- The words for which a program prints something of itself.
use Rattle.std.specs.Prelude.{ℕ, Bool, ◌||◌, List, [], ◌∷◌, codes, bytes_eq, if◌then◌else◌, Option, Some, None}
use Rattle.command_lines.specs.declared.information.Information.{Information}
use Rattle.command_lines.specs.declared.information.Information.TheVariants.{Help, Version}

abbrev pub is_help : List ℕ → Bool
is_help word = bytes_eq word (codes "--help") || bytes_eq word (codes "-h")

abbrev pub is_version : List ℕ → Bool
is_version word = bytes_eq word (codes "--version") || bytes_eq word (codes "-V")

-- What the words have it print, whatever else they say.
abbrev pub information_of : List (List ℕ) → Option Information
information_of [] = None
information_of (word ∷ more) =
    if bytes_eq word (codes "--") then None
    else (if is_help word then Some Help
    else (if is_version word then Some Version
    else information_of more))
