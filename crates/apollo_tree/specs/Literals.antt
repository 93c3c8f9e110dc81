-- What every tree keeps, said of the text of a name, an Int, a String and a Boolean.
use Rattle.std.proofs.Common.{◌≡◌, ℕ, List, sym, ap, ◌∙◌, subst, true}
use Rattle.std.proofs.lemmas.List.{append-nil}
use Rattle.lexical_grammar.specs.Numbers.{IsIntegerPart}
use Rattle.lexical_grammar.specs.Tokens.{IsName, IsString}
use Rattle.document_grammar.specs.Forests.{Forest, Tree, Leaf, Node, text}
use Rattle.document_grammar.specs.Numbers.{is_kind}
use Rattle.document_grammar.specs.declared.kind.SyntaxKind.{SyntaxKind}
use Rattle.document_grammar.specs.declared.kind.SyntaxKind.TheVariants.{NAME, INT_VALUE, STRING_VALUE}
use Rattle.apollo_tree.specs.Order.{tree_kind, tree_text, is_node}
use Rattle.apollo_tree.specs.Sound.{Fits, IsOneLeaf, IsNameLeaf, IsIntLeaf, IsStringLeaf, IsSoundTree}

name_fits : (k : SyntaxKind) (kids : Forest) → is_kind NAME k ≡ true → Fits k kids → IsOneLeaf IsNameLeaf kids
name_fits NAME kids e f = f
name_fits _ kids e f = absurd cc

int_fits : (k : SyntaxKind) (kids : Forest) → is_kind INT_VALUE k ≡ true → Fits k kids → IsOneLeaf IsIntLeaf kids
int_fits INT_VALUE kids e f = f
int_fits _ kids e f = absurd cc

string_fits : (k : SyntaxKind) (kids : Forest) → is_kind STRING_VALUE k ≡ true → Fits k kids
    → IsOneLeaf IsStringLeaf kids
string_fits STRING_VALUE kids e f = f
string_fits _ kids e f = absurd cc

-- what is known of the leaf's text holds of the node's
one_leaf_text : (P : SyntaxKind → List ℕ → Type 0) (Q : List ℕ → Type 0) → ((k : SyntaxKind) (s : List ℕ) → P k s → Q s)
    → (kids : Forest) → IsOneLeaf P kids
    → Q (text kids)
one_leaf_text P Q says kids f = subst Q (sym (ap text f.2 ∙ append-nil f.1)) (says f.0 f.1 f.3)

pub IsName-from_sound : (t : Tree) → is_node t ≡ true → is_kind NAME (tree_kind t) ≡ true → IsSoundTree t
    → IsName (tree_text t)
IsName-from_sound (Leaf k s) n e h = absurd cc
IsName-from_sound (Node k kids) n e h = one_leaf_text IsNameLeaf IsName (λ k s p. p.1) kids (name_fits k kids e h.0)

pub IsIntegerPart-from_sound : (t : Tree) → is_node t ≡ true → is_kind INT_VALUE (tree_kind t) ≡ true → IsSoundTree t
    → IsIntegerPart (tree_text t)
IsIntegerPart-from_sound (Leaf k s) n e h = absurd cc
IsIntegerPart-from_sound (Node k kids) n e h =
    one_leaf_text IsIntLeaf IsIntegerPart (λ k s p. p.1) kids (int_fits k kids e h.0)

pub IsString-from_sound : (t : Tree) → is_node t ≡ true → is_kind STRING_VALUE (tree_kind t) ≡ true → IsSoundTree t
    → IsString (tree_text t)
IsString-from_sound (Leaf k s) n e h = absurd cc
IsString-from_sound (Node k kids) n e h =
    one_leaf_text IsStringLeaf IsString (λ k s p. p.1) kids (string_fits k kids e h.0)
