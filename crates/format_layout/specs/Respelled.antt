-- Texts, tokens and trees that are the same but for the spelling of their block strings.
use Rattle.std.specs.Prelude.{◌≡◌, ℕ, ◌⊎◌, List, [], ◌∷◌}
use Rattle.lexical_grammar.specs.Cut.{Word}
use Rattle.lexical_grammar.specs.Values.{Block}
use Rattle.lexical_grammar.specs.declared.TokenKind.TheVariants.{StringValue}
use Rattle.document_grammar.specs.Derivation.{document}
use Rattle.document_grammar.specs.Kinds.{STRING}
use Rattle.document_grammar.specs.Sentence.{Sentence}
use Rattle.document_grammar.specs.Tree.{Tree, leaf, node, Forest, none, ◌▸◌}

-- both texts are block strings, with one value
pub record SameBlock (text other : List ℕ) : Type 0 where
  pub value : List ℕ
  pub first : ∥ Block text value ∥₁
  pub second : ∥ Block other value ∥₁

-- the same token, or block strings with one value
abbrev pub SameWord : Word → Word → Type 0
SameWord a b = (a ≡ b) ⊎ ((a.kind ≡ StringValue) × (b.kind ≡ StringValue) × SameBlock a.text b.text)

-- as many, and so it is of each two in their order
abbrev pub AreSameWords : List Word → List Word → Type 0
AreSameWords [] [] = Unit {0}
AreSameWords [] (b ∷ bs) = ⊥
AreSameWords (a ∷ more) [] = ⊥
AreSameWords (a ∷ more) (b ∷ bs) = SameWord a b × AreSameWords more bs

-- the same tree, but that leaves of block strings may have other texts with the same values
abbrev mutual
  pub Alike : Tree → Tree → Type 0
  Alike (leaf k x) (leaf j y) = (k ≡ j) × ((x ≡ y) ⊎ ((k ≡ STRING) × SameBlock x y))
  Alike (leaf k x) (node j g) = ⊥
  Alike (node k f) (leaf j y) = ⊥
  Alike (node k f) (node j g) = (k ≡ j) × AllAlike f g

  pub AllAlike : Forest → Forest → Type 0
  AllAlike none none = Unit {0}
  AllAlike none (u ▸ g) = ⊥
  AllAlike (t ▸ f) none = ⊥
  AllAlike (t ▸ f) (u ▸ g) = Alike t u × AllAlike f g

-- The text is a sentence, whose derivation is this one but for the spelling of block strings.
pub record Respelled (text : List ℕ) (t : Tree) : Type 0 where
  pub tree : Tree
  pub alike : Alike t tree
  pub sentence : Sentence text tree document
