-- Brackets are those of at most one list of trees.
use Rattle.std.proofs.Common.{◌≡◌, ℕ, List, [], ◌∷◌, ◌++◌, refl, sym, ◌∙◌, subst}
use Rattle.std.proofs.lemmas.List.{append-nil, append_assoc}
use Rattle.std.specs.Prelude.{⊤}
use Rattle.document_grammar.specs.Forests.{Forest, none, leaf, node}
use Rattle.document_grammar.specs.declared.kind.SyntaxKind.{SyntaxKind}
use Rattle.apollo_tree.specs.Brackets.{Bracket, Opening, Single, Closing, brackets}

-- no tree begins here
abbrev Ends : List Bracket → Type 0
Ends [] = ⊤
Ends (Opening k ∷ vs) = ⊥
Ends (Single k s ∷ vs) = ⊥
Ends (Closing ∷ vs) = ⊤

opening-parts : (k l : SyntaxKind) (us vs : List Bracket) → Opening k ∷ us ≡ Opening l ∷ vs → (k ≡ l) × (us ≡ vs)
opening-parts k l us vs h = ((cc), (cc))

single-parts : (k l : SyntaxKind) (s t : List ℕ) (us vs : List Bracket) → Single k s ∷ us ≡ Single l t ∷ vs
    → (k ≡ l) × (s ≡ t) × (us ≡ vs)
single-parts k l s t us vs h = ((cc), (cc), (cc))

closing-rest : (us vs : List Bracket) → Closing ∷ us ≡ Closing ∷ vs → us ≡ vs
closing-rest us vs h = cc

same-leaf : (k l : SyntaxKind) (s t : List ℕ) (f g : Forest) → k ≡ l → s ≡ t → f ≡ g → leaf k s f ≡ leaf l t g
same-leaf k l s t f g a b c = cc

same-node : (k l : SyntaxKind) (f g x y : Forest) → k ≡ l → f ≡ g → x ≡ y → node k f x ≡ node l g y
same-node k l f g x y a b c = cc

one-reading : (f g : Forest) (xs ys : List Bracket) → Ends xs → Ends ys
    → brackets f ++ xs ≡ brackets g ++ ys → (f ≡ g) × (xs ≡ ys)
one-reading none none xs ys a b h = (refl, h)
one-reading none (leaf l t g) xs ys a b h = absurd (subst Ends h a)
one-reading none (node l m g) xs ys a b h = absurd (subst Ends h a)
one-reading (leaf k s f) none xs ys a b h = absurd (subst Ends (sym h) b)
one-reading (node k m f) none xs ys a b h = absurd (subst Ends (sym h) b)
one-reading (leaf k s f) (node l m g) xs ys a b h = absurd cc
one-reading (node k m f) (leaf l t g) xs ys a b h = absurd cc
one-reading (leaf k s f) (leaf l t g) xs ys a b h =
    let parts = single-parts k l s t (brackets f ++ xs) (brackets g ++ ys) h in
    let rest = one-reading f g xs ys a b parts.2 in
    (same-leaf k l s t f g parts.0 parts.1 rest.0, rest.1)
one-reading (node k m f) (node l n g) xs ys a b h =
    let parts = opening-parts k l ((brackets m ++ Closing ∷ brackets f) ++ xs)
    ((brackets n ++ Closing ∷ brackets g) ++ ys) h in
    let inside = one-reading m n (Closing ∷ (brackets f ++ xs)) (Closing ∷ (brackets g ++ ys)) tt tt
    (sym (append_assoc (brackets m) (Closing ∷ brackets f) xs) ∙ parts.1
    ∙ append_assoc (brackets n) (Closing ∷ brackets g) ys) in
    let rest = one-reading f g xs ys a b (closing-rest (brackets f ++ xs) (brackets g ++ ys) inside.1) in
    (same-node k l m n f g parts.0 inside.0 rest.0, rest.1)

pub brackets-one : (f g : Forest) → brackets f ≡ brackets g → f ≡ g
brackets-one f g h = (one-reading f g [] [] tt tt (append-nil (brackets f) ∙ h ∙ sym (append-nil (brackets g)))).0
