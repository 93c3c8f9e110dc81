-- What a search finds at the front of a bad string, for one that looks for its last fault.
use Rattle.std.specs.Prelude.{◌≡◌, ℕ, ◌<◌, ◌≤◌, if◌then◌else◌, List, [], ◌∷◌, length, drop, Option, Some, None}
use Rattle.std.specs.Prelude.{unwrap_or}
use Rattle.apollo_lexer.specs.BadText.{after_character, last_fault}
use Rattle.apollo_lexer.specs.declared.faults.LexFault.{LexFault}
use Rattle.apollo_lexer.specs.declared.faults.LexFault.TheVariants.{UnterminatedString}
use Rattle.apollo_lexer.specs.declared.faults.Part.{Part}

-- the last fault after some characters
abbrev pub after_characters : LexFault → List ℕ → LexFault
after_characters last [] = last
after_characters last (b ∷ bs) = after_characters (after_character last b) bs

-- the fault that was found, or the last one before it
abbrev pub or_last : Option LexFault → LexFault → LexFault
or_last found last = unwrap_or found last

-- the string has no end; or these bytes, which end it, or after which it goes on
abbrev pub IsPart : List ℕ → Option Part → Type 0
IsPart rest None = (last : LexFault) → last_fault last 0 rest ≡ UnterminatedString
IsPart rest (Some p) =
    (0 < p.len) × (p.len ≤ length rest)
    × ((last : LexFault) → last_fault last 0 rest
    ≡ (if p.is_last then or_last p.fault last else last_fault (or_last p.fault last) 0 (drop p.len rest)))
