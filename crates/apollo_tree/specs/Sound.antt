-- What every tree keeps: each leaf is text, and a name or a literal is one leaf with the text of its token.
use Rattle.std.specs.Prelude.{◌≡◌, ℕ, List, [], ◌∷◌, ◌⊎◌, ⊤, codes}
use Rattle.std.specs.Str.{IsUtf8}
use Rattle.lexical_grammar.specs.Numbers.{IsIntegerPart}
use Rattle.lexical_grammar.specs.Tokens.{IsName, IsString}
use Rattle.document_grammar.specs.Builds.{Open, Building}
use Rattle.document_grammar.specs.Forests.{Forest, none, leaf, node, Tree, Leaf, Node}
use Rattle.document_grammar.specs.declared.kind.SyntaxKind.{SyntaxKind}
use Rattle.document_grammar.specs.declared.kind.SyntaxKind.TheVariants.{IDENT, INT, STRING, true_KW, false_KW, NAME}
use Rattle.document_grammar.specs.declared.kind.SyntaxKind.TheVariants.{INT_VALUE, STRING_VALUE, BOOLEAN_VALUE}

-- the leaves that a name or a literal may be
abbrev pub IsNameLeaf : SyntaxKind → List ℕ → Type 0
IsNameLeaf k s = (k ≡ IDENT) × IsName s

abbrev pub IsIntLeaf : SyntaxKind → List ℕ → Type 0
IsIntLeaf k s = (k ≡ INT) × IsIntegerPart s

abbrev pub IsStringLeaf : SyntaxKind → List ℕ → Type 0
IsStringLeaf k s = (k ≡ STRING) × IsString s

abbrev pub IsBooleanLeaf : SyntaxKind → List ℕ → Type 0
IsBooleanLeaf k s = ((k ≡ true_KW) × (s ≡ codes "true")) ⊎ ((k ≡ false_KW) × (s ≡ codes "false"))

abbrev pub IsOneLeaf : (SyntaxKind → List ℕ → Type 0) → Forest → Type 0
IsOneLeaf P kids = (k : SyntaxKind) × (s : List ℕ) × (kids ≡ leaf k s none) × P k s

-- a node of the kind may have these children
abbrev pub Fits : SyntaxKind → Forest → Type 0
Fits NAME kids = IsOneLeaf IsNameLeaf kids
Fits INT_VALUE kids = IsOneLeaf IsIntLeaf kids
Fits STRING_VALUE kids = IsOneLeaf IsStringLeaf kids
Fits BOOLEAN_VALUE kids = IsOneLeaf IsBooleanLeaf kids
Fits _ kids = ⊤

abbrev pub IsSound : Forest → Type 0
IsSound none = ⊤
IsSound (leaf k s rest) = IsUtf8 s × IsSound rest
IsSound (node k kids rest) = Fits k kids × IsSound kids × IsSound rest

abbrev pub IsSoundTree : Tree → Type 0
IsSoundTree (Leaf k s) = IsUtf8 s
IsSoundTree (Node k kids) = Fits k kids × IsSound kids

abbrev pub AreSound : List Open → Type 0
AreSound [] = ⊤
AreSound (o ∷ above) = IsSound o.before × AreSound above

-- there is an innermost open node, and it may have the trees that are in it
abbrev pub FitsInnermost : Forest → List Open → Type 0
FitsInnermost here [] = ⊥
FitsInnermost here (o ∷ above) = Fits o.kind here

abbrev pub CanFinish : Building → Type 0
CanFinish b = FitsInnermost b.here b.above
