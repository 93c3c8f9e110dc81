-- What holds of a tree with errors: which children a node may have, and where left over tokens are. The standard says
-- nothing of such trees, so these are this project's own promises.
use Rattle.std.specs.List.{list_any, All}
use Rattle.std.specs.Prelude.{◌≡◌, ◌≢◌, ℕ, ◌+◌, ◌≤◌, Bool, true, false, ◌&&◌, ◌⊎◌, cond, eqb, List, [], ◌∷◌, ◌++◌}
use Rattle.std.specs.Prelude.{length, Option, Some, None, IsTrue, IsFalse}
use Rattle.lexical_grammar.specs.Cut.{Item, Significant, is_significant_kind, are_tokens}
use Rattle.lexical_grammar.specs.declared.TokenKind.{TokenKind}
use Rattle.lexical_grammar.specs.declared.TokenKind.TheVariants.{RBracket}
use Rattle.document_grammar.specs.Choices.{is_ignored}
use Rattle.document_grammar.specs.Derivation.{document, Spells, nest, texts}
use Rattle.document_grammar.specs.FirstError.{At}
use Rattle.document_grammar.specs.Forests as built
use Rattle.document_grammar.specs.Kinds.{ERROR, SPREAD, LIST_VALUE, DOCUMENT}
use Rattle.document_grammar.specs.Numbered.{numbered}
use Rattle.document_grammar.specs.Pattern.{Pattern, any_of, nothing, ◌then◌, ◌or_else◌, many, member}
use Rattle.document_grammar.specs.Placed.{bares}
use Rattle.document_grammar.specs.Rows.{Row}
use Rattle.document_grammar.specs.Sentence.{tokens_of}
use Rattle.document_grammar.specs.Tree.{Text, Tree, leaf, node, Forest, none, ◌▸◌}

-- ---- the symbols of a row

-- The kinds that a pattern has a place for.
abbrev pub symbols : Pattern → List ℕ
symbols (any_of ks) = ks
symbols nothing = []
symbols (p then q) = symbols p ++ symbols q
symbols (p or_else q) = symbols p ++ symbols q
symbols (many p) = symbols p

-- A child of a node of the kind k: a symbol of the kind's row; or an ERROR or SPREAD leaf, or an ignored one.
abbrev pub MayStand : ℕ → Tree → Type 0
MayStand k (leaf j x) = IsTrue (is_ignored j) ⊎ IsTrue (member j (ERROR ∷ SPREAD ∷ symbols (Row k)))
MayStand k (node j f) = IsTrue (member j (symbols (Row k)))

-- Each child may be in its node.
abbrev mutual
  pub Rowed : Tree → Type 0
  Rowed (leaf j x) = Unit {0}
  Rowed (node j f) = AllRowed j f

  pub AllRowed : ℕ → Forest → Type 0
  AllRowed k none = Unit {0}
  AllRowed k (t ▸ f) = MayStand k t × Rowed t × AllRowed k f

-- ---- tokens that were left over

-- A token of such a kind begins at the offset.
abbrev pub is_such : (TokenKind → Bool) → Option TokenKind → Bool
is_such kinds None = false
is_such kinds (Some kind) = kinds kind

abbrev pub token_at : (TokenKind → Bool) → List Item → ℕ → Bool
token_at kinds items offset = list_any (λ item. eqb item.index offset && is_such kinds item.kind) items

abbrev pub is_right_bracket : TokenKind → Bool
is_right_bracket RBracket = true
is_right_bracket _ = false

-- An ERROR leaf at the offset is a token that was left over where a significant token begins there; else it is bad text
-- or the end.
abbrev pub left_over : List Item → ℕ → ℕ → Bool
left_over items offset k = eqb k ERROR && token_at is_significant_kind items offset

-- The children of the root.
abbrev pub children_of : Tree → Forest
children_of (leaf k x) = none
children_of (node k f) = f

-- How many of the trees that begin at the offset are such tokens.
abbrev pub count_left_over : List Item → ℕ → Forest → ℕ
count_left_over items offset none = 0
count_left_over items offset (leaf k x ▸ f) =
    cond (left_over items offset k) 1 0 + count_left_over items (offset + length x) f
count_left_over items offset (node k g ▸ f) = count_left_over items (offset + length (texts g)) f

-- None of them is `]`.
abbrev pub NoBracket : List Item → ℕ → Forest → Type 0
NoBracket items offset none = Unit {0}
NoBracket items offset (leaf k x ▸ f) =
    (IsTrue (left_over items offset k) → IsFalse (token_at is_right_bracket items offset))
    × NoBracket items (offset + length x) f
NoBracket items offset (node k g ▸ f) = NoBracket items (offset + length (texts g)) f

-- The children of a node but the root: in a LIST_VALUE all but `]` may be left over, in another node one.
abbrev pub Spares : List Item → ℕ → ℕ → Forest → Type 0
Spares items offset k f =
    (k ≡ LIST_VALUE → NoBracket items offset f) × (k ≢ LIST_VALUE → count_left_over items offset f ≤ 1)

-- Each token that was left over has an error with its offset and its text; and the nodes below spare the others.
abbrev pub LeftOver : (ℕ → Text → Type 0) → List Item → ℕ → Forest → Type 0
LeftOver Told items offset none = Unit {0}
LeftOver Told items offset (leaf k x ▸ f) =
    (IsTrue (left_over items offset k) → Told offset x) × LeftOver Told items (offset + length x) f
LeftOver Told items offset (node k g ▸ f) =
    Spares items offset k g × LeftOver Told items offset g × LeftOver Told items (offset + length (texts g)) f

-- ---- going on

-- None of the offsets is beyond a significant token of these items.
abbrev pub NoneBeyond : List Item → List ℕ → Type 0
NoneBeyond items offsets = (m : ℕ) (b : At items m) → Significant (b.item ∷ []) ≢ [] → All (λ n. n ≤ m) offsets

-- Where the items after some of the root's children are a document of its own, which nests at most r deep, the later
-- children are its derivation's, and no error is beyond its first token.
abbrev pub GoesOn : ℕ → List Item → List ℕ → built.Forest → Type 0
GoesOn r items offsets kids =
    (front later : built.Forest) (a : At items (length (built.text front))) (u : Tree) → kids ≡ built.join front later
    → are_tokens (a.item ∷ a.more) ≡ true → Spells (tokens_of (a.item ∷ a.more)) u document → nest u ≤ r
    → (node DOCUMENT (bares (numbered later)) ≡ u) × NoneBeyond (a.item ∷ a.more) offsets
