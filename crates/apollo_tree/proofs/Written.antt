-- What a call of the builder does to the brackets that were written.
use Rattle.std.proofs.Common.{◌≡◌, ℕ, zero, suc, ◌+◌, ◌-◌, List, [], ◌∷◌, ◌++◌, refl, sym, ap, ◌∙◌, arith}
use Rattle.std.proofs.lemmas.List.{append-nil, append_assoc}
use Rattle.document_grammar.proofs.Built.{join-front_back}
use Rattle.document_grammar.specs.Builds.{Open, Building, start, add_leaf, finish, close, wrap, front, back, open_count}
use Rattle.document_grammar.specs.Builds.{CanOpenAt}
use Rattle.document_grammar.specs.Forests.{Forest, none, leaf, node, count, join}
use Rattle.document_grammar.specs.declared.kind.SyntaxKind.{SyntaxKind}
use Rattle.apollo_tree.specs.Brackets.{Bracket, Opening, Single, Closing, brackets, open_brackets, written, open_at}
use Rattle.apollo_tree.specs.Sound.{CanFinish, FitsInnermost}

brackets-join : (f g : Forest) → brackets (join f g) ≡ brackets f ++ brackets g
brackets-join none g = refl
brackets-join (leaf k s rest) g = ap (λ x. Single k s ∷ x) (brackets-join rest g)
brackets-join (node k kids rest) g =
    ap (λ x. Opening k ∷ x) (ap (λ x. brackets kids ++ Closing ∷ x) (brackets-join rest g)
    ∙ sym (append_assoc (brackets kids) (Closing ∷ brackets rest) (brackets g)))

pub written-start : (k : SyntaxKind) (b : Building) → written (start k b) ≡ written b ++ Opening k ∷ []
written-start k b = append-nil _ ∙ sym (append_assoc (open_brackets b.above) (brackets b.here) (Opening k ∷ []))

-- whole trees
pub written-joined : (f : Forest) (b : Building) → written (record b { here = join b.here f }) ≡ written b ++ brackets f
written-joined f b = ap (λ x. open_brackets b.above ++ x) (brackets-join b.here f)
    ∙ sym (append_assoc (open_brackets b.above) (brackets b.here) _)

pub written-leaf : (k : SyntaxKind) (s : List ℕ) (b : Building)
    → written (add_leaf k s b) ≡ written b ++ Single k s ∷ []
written-leaf k s b = written-joined (leaf k s none) b

close-written : (here : Forest) (above : List Open) → FitsInnermost here above
    → written (close here above) ≡ (open_brackets above ++ brackets here) ++ Closing ∷ []
close-written here [] h = absurd h
close-written here (o ∷ above) h =
    ap (λ x. open_brackets above ++ x) (brackets-join o.before (node o.kind here none))
    ∙ sym (append_assoc (open_brackets above) (brackets o.before) _)
    ∙ rest
  where
    rest : (open_brackets above ++ brackets o.before) ++ (Opening o.kind ∷ (brackets here ++ Closing ∷ []))
        ≡ ((open_brackets above ++ (brackets o.before ++ Opening o.kind ∷ [])) ++ brackets here) ++ Closing ∷ []
    rest = simp append_assoc

pub written-finish : (b : Building) → CanFinish b → written (finish b) ≡ written b ++ Closing ∷ []
written-finish b h = close-written b.here b.above h

-- how many elements brackets open
abbrev elements : List Bracket → ℕ
elements [] = 0
elements (Opening k ∷ bs) = suc (elements bs)
elements (Single k s ∷ bs) = suc (elements bs)
elements (Closing ∷ bs) = elements bs

elements-append : (xs ys : List Bracket) → elements (xs ++ ys) ≡ elements xs + elements ys
elements-append [] ys = omega arith
elements-append (Opening k ∷ xs) ys = omega (arith, elements-append xs ys)
elements-append (Single k s ∷ xs) ys = omega (arith, elements-append xs ys)
elements-append (Closing ∷ xs) ys = elements-append xs ys

elements-brackets : (f : Forest) → elements (brackets f) ≡ count f
elements-brackets none = refl
elements-brackets (leaf k s rest) = ap suc (elements-brackets rest)
elements-brackets (node k kids rest) = ap suc (elements-append (brackets kids) (Closing ∷ brackets rest)
    ∙ omega (arith, elements-brackets kids, elements-brackets rest))

elements-open : (above : List Open) → elements (open_brackets above) ≡ open_count above
elements-open [] = refl
elements-open (o ∷ above) =
    elements-append (open_brackets above) _ ∙ omega (
      arith,
      elements-append (brackets o.before) (Opening o.kind ∷ []),
      elements-brackets o.before,
      elements-open above,
    )

open-past : (n : ℕ) (k : SyntaxKind) (xs ys : List Bracket) → n ≡ elements xs
    → open_at n k (xs ++ ys) ≡ xs ++ open_at 0 k ys
open-past n k [] ys e = ap (λ m. open_at m k ys) e
open-past n k (Closing ∷ xs) ys e = ap (λ x. Closing ∷ x) (open-past n k xs ys e)
open-past zero k (Opening l ∷ xs) ys e = absurd (omega arith)
open-past zero k (Single l s ∷ xs) ys e = absurd (omega arith)
open-past (suc n) k (Opening l ∷ xs) ys e = ap (λ x. Opening l ∷ x) (open-past n k xs ys (omega arith))
open-past (suc n) k (Single l s ∷ xs) ys e = ap (λ x. Single l s ∷ x) (open-past n k xs ys (omega arith))

open-first : (k : SyntaxKind) (f : Forest) → open_at 0 k (brackets f) ≡ Opening k ∷ brackets f
open-first k none = refl
open-first k (leaf l s rest) = refl
open-first k (node l kids rest) = refl

pub written-wrap : (p : ℕ) (k : SyntaxKind) (b : Building) → CanOpenAt p b
    → written (wrap p k b) ≡ open_at p k (written b)
written-wrap p k b can_open =
    let n = p - open_count b.above in
    let f = front n b.here in
    let g = back n b.here in
    let xs = open_brackets b.above ++ brackets f in
    let whole : written b ≡ xs ++ brackets g =
    ap (λ x. open_brackets b.above ++ brackets x) (sym (join-front_back n b.here))
    ∙ ap (λ x. open_brackets b.above ++ x) (brackets-join f g)
    ∙ sym (append_assoc (open_brackets b.above) (brackets f) (brackets g)) in
    let l : p ≡ elements xs = sym (elements-append (open_brackets b.above) (brackets f)
    ∙ omega (arith, elements-open b.above, elements-brackets f, can_open.inside, can_open.seam)) in
    sym (ap (open_at p k) whole ∙ open-past p k xs (brackets g) l ∙ ap (λ x. xs ++ x) (open-first k g)
    ∙ sym (ap (λ x. x ++ brackets g) (sym (append_assoc (open_brackets b.above) (brackets f) (Opening k ∷ [])))
    ∙ append_assoc xs (Opening k ∷ []) (brackets g)))

whole-written : (above : List Open) (here : Forest) → above ≡ [] → brackets here ≡ open_brackets above ++ brackets here
whole-written above here e = ap (λ x. open_brackets x ++ brackets here) (sym e)

pub written-whole : (b : Building) → b.above ≡ [] → brackets b.here ≡ written b
written-whole b e = whole-written b.above b.here e
