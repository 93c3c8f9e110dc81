-- Examples of the places of ignored leaves: a space is placed between a brace and a field, and behind an operation; not
-- behind the leaf of a name.
use Rattle.std.proofs.Common.{◌≢◌, true≢false, sym, IsTrue, false, List, [], ◌∷◌, refl}
use Rattle.std.specs.Prelude.{codes}
use Rattle.document_grammar.specs.Kinds.{WHITESPACE, L_CURLY, R_CURLY, IDENT, DOCUMENT, OPERATION_DEFINITION}
use Rattle.document_grammar.specs.Kinds.{SELECTION_SET, FIELD, NAME}
use Rattle.document_grammar.specs.Placed.{PlacedIn, Placed}
use Rattle.document_grammar.specs.Tree.{Token, Tree, leaf, node, Forest, none, ◌▸◌, ◌+++◌}

abbrev space : Tree
space = leaf WHITESPACE (codes " ")

abbrev name : Forest → Tree
name f = node FIELD (node NAME (leaf IDENT (codes "a") ▸ f) ▸ none)

abbrev query : Forest → Tree → Tree
query f t = node DOCUMENT
    (node OPERATION_DEFINITION
    (node SELECTION_SET (leaf L_CURLY (codes "{") ▸ (f +++ (t ▸ leaf R_CURLY (codes "}") ▸ none))) ▸ none) ▸
    space ▸ none)

no : {A : Type 0} → IsTrue false → A
no h = absurd (true≢false (sym h))

some : {a : Token} {w : List Token} → a ∷ w ≢ []
some e = absurd (cc)

spaces-placed : Placed (query (space ▸ none) (name none))
spaces-placed =
    let ident : PlacedIn (node NAME (leaf IDENT (codes "a") ▸ none)) = ((no, tt), (tt, tt)) in
    let field : PlacedIn (name none) = ((no, tt), (ident, tt)) in
    ((((no, tt)), (((no, ((λ i. (some, some)), (no, (no, tt)))), (tt, (tt, (field, (tt, tt))))), tt)), (tt, tt))

space-in-a-name : Placed (query none (name (space ▸ none))) → ⊥
space-in-a-name h = (h.0.1.0.1.1.0.1.0.0.1.0 refl).1 refl
