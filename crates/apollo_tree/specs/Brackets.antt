-- The builder's calls as brackets: start opens, finish closes, and wrap opens at an earlier index.
use Rattle.std.specs.Prelude.{ℕ, zero, suc, List, [], ◌∷◌, ◌++◌}
use Rattle.document_grammar.specs.Builds.{Open, Building}
use Rattle.document_grammar.specs.Forests.{Forest, none, leaf, node}
use Rattle.document_grammar.specs.declared.kind.SyntaxKind.{SyntaxKind}

pub data Bracket : Type 0 where
  Opening : SyntaxKind → Bracket
  Single : SyntaxKind → List ℕ → Bracket
  Closing : Bracket

-- the brackets of trees
abbrev pub brackets : Forest → List Bracket
brackets none = []
brackets (leaf k s rest) = Single k s ∷ brackets rest
brackets (node k kids rest) = Opening k ∷ (brackets kids ++ Closing ∷ brackets rest)

-- the brackets that were written so far
abbrev pub open_brackets : List Open → List Bracket
open_brackets [] = []
open_brackets (o ∷ above) = open_brackets above ++ (brackets o.before ++ Opening o.kind ∷ [])

abbrev pub written : Building → List Bracket
written b = open_brackets b.above ++ brackets b.here

-- an opening bracket, put in before the element with the number n, or at the end
abbrev pub open_at : ℕ → SyntaxKind → List Bracket → List Bracket
open_at n k [] = Opening k ∷ []
open_at n k (Closing ∷ bs) = Closing ∷ open_at n k bs
open_at zero k (Opening l ∷ bs) = Opening k ∷ Opening l ∷ bs
open_at zero k (Single l s ∷ bs) = Opening k ∷ Single l s ∷ bs
open_at (suc n) k (Opening l ∷ bs) = Opening l ∷ open_at n k bs
open_at (suc n) k (Single l s ∷ bs) = Single l s ∷ open_at n k bs
