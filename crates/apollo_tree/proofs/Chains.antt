-- An element has no more parents, one above the other, than places before it.
use Rattle.std.proofs.Common.{◌≡◌, ℕ, zero, suc, ◌<◌, ◌∷◌, refl, sym, ap, ◌∙◌, subst, arith, Option, Some, None}
use Rattle.std.proofs.lemmas.Option.{none-some, same_Some}
use Rattle.std.specs.Prelude.{option_map}
use Rattle.apollo_tree.proofs.Parents.{parent-before}
use Rattle.apollo_tree.specs.Above.{IsChainOfParents, first_parents, at_or_above}
use Rattle.apollo_tree.specs.Order.{Place, parent_place}
use Rattle.apollo_tree.specs.References.{node_place}
use Rattle.apollo_tree.specs.Yields.{up_from}
use Rattle.apollo_tree.specs.declared.node.SyntaxNode.{SyntaxNode}

-- this number of steps is enough for a chain from a place
pub record IsEnough (n : ℕ) (p : Option Place) : Type 0 where
  pub before : (q : Place) → p ≡ Some q → q.index < n

above : (n : ℕ) (p : Place) → p.index < suc n → IsEnough n (parent_place p)
above n p h = record { before = λ q e. let lt : q.index < p.index = parent-before p q e in omega arith }

nobody : (n : ℕ) → IsEnough n None
nobody n = record { before = λ q e. absurd (none-some q e) }

-- more than enough gives no more
same-chain : (n m : ℕ) (p : Option Place) → IsEnough n p → IsEnough m p → first_parents n p ≡ first_parents m p
same-chain zero zero p h k = refl
same-chain zero (suc m) None h k = refl
same-chain (suc n) zero None h k = refl
same-chain (suc n) (suc m) None h k = refl
same-chain zero m (Some p) h k = absurd (omega (arith, h.before p refl))
same-chain (suc n) zero (Some p) h k = absurd (omega (arith, k.before p refl))
same-chain (suc n) (suc m) (Some p) h k =
    ap (λ ps. p ∷ ps) (same-chain n m (parent_place p) (above n p (h.before p refl)) (above m p (k.before p refl)))

chain-of : (n : ℕ) (p : Option Place) → IsEnough n p → IsChainOfParents p (first_parents n p)
chain-of zero None h = refl
chain-of (suc n) None h = refl
chain-of zero (Some p) h = absurd (omega (arith, h.before p refl))
chain-of (suc n) (Some p) h = (refl, chain-of n (parent_place p) (above n p (h.before p refl)))

own : (p : Place) → IsEnough (suc p.index) (Some p)
own p = record { before = λ q e. omega (arith, ap (λ (x : Place). x.index) (same_Some p q e)) }

pub is-chain : (n : SyntaxNode) → IsChainOfParents (Some (node_place n)) (at_or_above (node_place n))
is-chain n = chain-of (suc n.index) (Some (node_place n)) (own (node_place n))

-- a node, and then its parent and those above that
pub chain-step : (n : SyntaxNode) (up : Option SyntaxNode) → option_map node_place up ≡ parent_place (node_place n)
    → up_from (Some n) ≡ node_place n ∷ up_from up
chain-step n None e = ap (λ ps. node_place n ∷ ps)
    (ap (first_parents n.index) (sym e) ∙ same-chain n.index 0 None (nobody n.index) (nobody 0))
chain-step n (Some u) e =
    let p = node_place n in
    ap (λ ps. p ∷ ps) (ap (first_parents n.index) (sym e) ∙ same-chain n.index (suc u.index) (Some (node_place u))
    (subst (IsEnough n.index) (sym e) (above n.index p (omega arith))) (own (node_place u)))
