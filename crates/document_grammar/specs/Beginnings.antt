-- Over tokens alone, without a text: derivations by the rows of the first profile, and the beginnings of the tokens
-- that derivations spell.
use Rattle.std.specs.Prelude.{◌≡◌, ℕ, ◌≤◌, List, ◌++◌}
use Rattle.document_grammar.specs.Derivation.{Sort, DerivationBy, Spells, Yield, Terminal, terminals, nest}
use Rattle.document_grammar.specs.Rows.{FirstRow}
use Rattle.document_grammar.specs.Tree.{Token, Tree}

-- The tree is a derivation by the rows of the first profile, and spells these tokens.
abbrev pub FirstSpells : List Token → Tree → Sort → Type 0
FirstSpells w t sort = DerivationBy FirstRow t sort × (Yield t ≡ w)

-- The list is a beginning of the tokens that some derivation spells, and the end.
abbrev pub Starts : Sort → List Terminal → Type 0
Starts sort l = (w : List Token) × (t : Tree) × (v : List Terminal) × Spells w t sort × (terminals w ≡ l ++ v)

-- The same of a derivation whose nesting is at most `r`.
abbrev pub StartsWithin : Sort → ℕ → List Terminal → Type 0
StartsWithin sort r l =
    (w : List Token) × (t : Tree) × (v : List Terminal) × Spells w t sort × (terminals w ≡ l ++ v) × (nest t ≤ r)
