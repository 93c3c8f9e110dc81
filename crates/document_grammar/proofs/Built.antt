-- Lists of trees, one after the other, with and without their ignored leaves: what they spell; and the same of built
-- trees.
use Rattle.std.proofs.Common.{◌≡◌, ℕ, ◌+◌, ◌-◌, true, zero, suc, List, [], ◌∷◌, ◌++◌, append_assoc, refl, sym, ap, ◌∙◌}
use Rattle.std.proofs.Common.{inl, inr, true≢false, arith}
use Rattle.document_grammar.proofs.Booleans.{either}
use Rattle.document_grammar.proofs.Joins.{count-join}
use Rattle.document_grammar.specs.Builds.{Open, front, back, close, built_count}
use Rattle.document_grammar.specs.Derivation.{Yield, Yields}
use Rattle.document_grammar.specs.Forests as built
use Rattle.document_grammar.specs.Numbered.{numbered}
use Rattle.document_grammar.specs.Numbers.{number}
use Rattle.document_grammar.specs.Placed.{ignored, bare, bares}
use Rattle.document_grammar.specs.Tree.{Token, Tree, leaf, node, Forest, none, ◌▸◌, ◌+++◌}

-- One list of trees after the other.
pub forest-none : (f : Forest) → f +++ none ≡ f
forest-none none = refl
forest-none (u ▸ f) = ap (λ (x : Forest). u ▸ x) (forest-none f)

pub Yields-append : (f g : Forest) → Yields (f +++ g) ≡ Yields f ++ Yields g
Yields-append none g = refl
Yields-append (t ▸ f) g =
    ap (λ (w : List Token). Yield t ++ w) (Yields-append f g) ∙ sym (append_assoc (Yield t) (Yields f) (Yields g))

pub bares-append : (f g : Forest) → bares (f +++ g) ≡ bares f +++ bares g
bares-append none g = refl
bares-append (t ▸ f) g =
    elim (either (ignored t)) [ inl p ↦ rw (p, bares-append f g) refl | inr p ↦ rw (p, bares-append f g) refl ]

-- What is spelled stays without the ignored leaves.
yield-ignored : (t : Tree) → ignored t ≡ true → Yield t ≡ []
yield-ignored (leaf k x) h = rw h refl
yield-ignored (node k f) h = absurd (true≢false (sym h))

mutual
  pub Yield-bare : (t : Tree) → Yield (bare t) ≡ Yield t
  Yield-bare (leaf k x) = refl
  Yield-bare (node k f) = Yields-bares f

  pub Yields-bares : (f : Forest) → Yields (bares f) ≡ Yields f
  Yields-bares none = refl
  Yields-bares (t ▸ f) = elim (either (ignored t)) [
    | inl p ↦ rw (p, yield-ignored t p) (Yields-bares f)
    | inr p ↦ rw (p, Yield-bare t, Yields-bares f) refl
  ]

-- Built trees.
pub numbered-join : (f g : built.Forest) → numbered (built.join f g) ≡ numbered f +++ numbered g
numbered-join built.none g = refl
numbered-join (built.leaf k s rest) g = ap (λ (h : Forest). leaf (number k) s ▸ h) (numbered-join rest g)
numbered-join (built.node k kids rest) g =
    ap (λ (h : Forest). node (number k) (numbered kids) ▸ h) (numbered-join rest g)

pub bares-numbered-join : (f g : built.Forest)
    → bares (numbered (built.join f g)) ≡ bares (numbered f) +++ bares (numbered g)
bares-numbered-join f g = rw numbered-join (bares-append (numbered f) (numbered g))

-- A node that opens at an earlier index takes the trees from there on.
pub join-front_back : (n : ℕ) (f : built.Forest) → built.join (front n f) (back n f) ≡ f
join-front_back zero f = refl
join-front_back (suc n) built.none = refl
join-front_back (suc n) (built.leaf k s rest) = ap (built.leaf k s) (join-front_back n rest)
join-front_back (suc n) (built.node k kids rest) = ap (built.node k kids) (join-front_back (n - built.count kids) rest)

pub front-join : (f g : built.Forest) → front (built.count f) (built.join f g) ≡ f
front-join built.none g = refl
front-join (built.leaf k s rest) g = ap (built.leaf k s) (front-join rest g)
front-join (built.node k kids rest) g =
    let e : (built.count kids + built.count rest) - built.count kids ≡ built.count rest = omega arith in
    rw (e, front-join rest g) refl

pub back-join : (f g : built.Forest) → back (built.count f) (built.join f g) ≡ g
back-join built.none g = refl
back-join (built.leaf k s rest) g = back-join rest g
back-join (built.node k kids rest) g =
    let e : (built.count kids + built.count rest) - built.count kids ≡ built.count rest = omega arith in
    rw (e, back) (back-join rest g)

-- A node that is closed is an element as it was when it was open.
pub count-close : (here : built.Forest) (o : Open) (above : List Open)
    → built_count (close here (o ∷ above)) ≡ built_count (record { here = here; above = o ∷ above })
count-close here o above = omega (arith, count-join o.before (built.node o.kind here built.none))
