-- How deep trees nest in a node of a kind: what one tree and one list of trees add, by the kinds alone; and the same of
-- built trees.
use Rattle.std.proofs.Common.{not, ◌≡◌, ℕ, zero, suc, ◌+◌, ◌<◌, ◌≤◌, max, Bool, true, false, cond, List, refl, sym, ap}
use Rattle.std.proofs.Common.{ap₂, ◌∙◌, inl, inr, true≢false, ltb-true, arith}
use Rattle.std.specs.Prelude.{[], ◌∷◌}
use Rattle.document_grammar.proofs.Booleans.{either, and-l, and-r, not-c, cond-zero}
use Rattle.document_grammar.proofs.Built.{numbered-join}
use Rattle.document_grammar.specs.Booleans.{◌and◌}
use Rattle.document_grammar.specs.Choices.{Values, is_ignored}
use Rattle.document_grammar.specs.Derivation.{counts, below, belows, nest}
use Rattle.document_grammar.specs.Forests as built
use Rattle.document_grammar.specs.Kinds.{SELECTION_SET, LIST_TYPE, LIST_VALUE, OBJECT_FIELD}
use Rattle.document_grammar.specs.Numbered.{numbered}
use Rattle.document_grammar.specs.Numbers.{number}
use Rattle.document_grammar.specs.Pattern.{member}
use Rattle.document_grammar.specs.Placed.{ignored, bare, bares}
use Rattle.document_grammar.specs.Tree.{Tree, leaf, node, Forest, none, ◌▸◌, ◌+++◌, root}
use Rattle.document_grammar.specs.declared.kind.SyntaxKind.{SyntaxKind}

-- a kind that is never counted
abbrev pub uncounted : ℕ → Bool
uncounted k = not (member k (SELECTION_SET ∷ LIST_TYPE ∷ [])) and not (member k Values)

-- a kind below which values are not counted
abbrev pub is_bare : ℕ → Bool
is_bare p = not (member p (LIST_VALUE ∷ OBJECT_FIELD ∷ []))

-- as `counts`, but it stays as written
unfoldable pub weight : ℕ → ℕ → ℕ
weight p k = counts p k

pub weight-none : (p k : ℕ) → uncounted k ≡ true → weight p k ≡ 0
unfolding weight
weight-none p k h = rw (not-c _ (and-l _ _ h), not-c _ (and-r _ _ h))
    (cond-zero (member p (LIST_VALUE ∷ OBJECT_FIELD ∷ [])))

-- all parents count alike what is no value, and those that do not count values count all alike
pub weight-no_value : (p q k : ℕ) → member k Values ≡ false → weight p k ≡ weight q k
unfolding weight
weight-no_value p q k h =
    rw (h, cond-zero (member p (LIST_VALUE ∷ OBJECT_FIELD ∷ [])), cond-zero (member q (LIST_VALUE ∷ OBJECT_FIELD ∷ [])))
    refl

weight-same : (p q k : ℕ) → is_bare p ≡ true → is_bare q ≡ true → weight p k ≡ weight q k
unfolding weight
weight-same p q k h g = rw (not-c _ h, not-c _ g) refl

pub weight-le : (p k : ℕ) → weight p k ≤ 1
unfolding weight
weight-le p k = three (member k (SELECTION_SET ∷ LIST_TYPE ∷ []))
    (member p (LIST_VALUE ∷ OBJECT_FIELD ∷ [])) (member k Values)
  where
    three : (a b c : Bool) → cond a 1 (cond b (cond c 1 0) 0) ≤ 1
    three true b c = omega arith
    three false true true = omega arith
    three false true false = omega arith
    three false false c = omega arith

-- One list of trees after the other.
pub belows-append : (k : ℕ) (f g : Forest) → belows k (f +++ g) ≡ max (belows k f) (belows k g)
belows-append k none g = omega arith
belows-append k (t ▸ f) g = let h = belows-append k f g in omega (arith, h)

pub belows-same : (p q : ℕ) (f : Forest) → is_bare p ≡ true → is_bare q ≡ true → belows p f ≡ belows q f
unfolding weight
belows-same p q none h g = refl
belows-same p q (t ▸ f) h g =
    ap₂ (λ (w d : ℕ). max (w + below t) d) (weight-same p q (root t) h g) (belows-same p q f h g)

-- Ignored leaves nest nothing.
ignored-uncounted : (k : ℕ) → is_ignored k ≡ true → uncounted k ≡ true
unfolding member ◌and◌
ignored-uncounted zero h = refl
ignored-uncounted (suc zero) h = refl
ignored-uncounted (suc (suc zero)) h = refl
ignored-uncounted (suc (suc (suc k))) h = let l : suc (suc (suc k)) < 3 = ltb-true _ _ h in absurd (omega arith)

ignored-below : (p : ℕ) (t : Tree) → ignored t ≡ true → weight p (root t) + below t ≡ 0
ignored-below p (leaf k x) h = ap (λ (n : ℕ). n + 0) (weight-none p k (ignored-uncounted k h))
ignored-below p (node k f) h = absurd (true≢false (sym h))

root-bare : (t : Tree) → root (bare t) ≡ root t
root-bare (leaf k x) = refl
root-bare (node k f) = refl

mutual
  unfolding weight

  below-bare : (t : Tree) → below (bare t) ≡ below t
  below-bare (leaf k x) = refl
  below-bare (node k f) = belows-bares k f

  belows-bares : (p : ℕ) (f : Forest) → belows p (bares f) ≡ belows p f
  belows-bares p none = refl
  belows-bares p (t ▸ f) = elim (either (ignored t)) [
    | inl q ↦ (let z = ignored-below p t q in let r = belows-bares p f in rw q (omega (arith, z, r)))
    | inr q ↦ rw (q, root-bare t, below-bare t, belows-bares p f) refl
  ]

pub nest-bare : (t : Tree) → nest (bare t) ≡ nest t
nest-bare t = rw (root-bare t, below-bare t) refl

-- The nesting inside a node of the kind `p`.
unfoldable pub inner : ℕ → built.Forest → ℕ
inner p f = belows p (numbered f)

pub inner-join : (p : ℕ) (f g : built.Forest) → inner p (built.join f g) ≡ max (inner p f) (inner p g)
unfolding inner
inner-join p f g = ap (belows p) (numbered-join f g) ∙ belows-append p (numbered f) (numbered g)

pub inner-none : (p : ℕ) → inner p built.none ≡ 0
unfolding inner
inner-none p = refl

pub inner-leaf : (p : ℕ) (k : SyntaxKind) (x : List ℕ)
    → inner p (built.leaf k x built.none) ≡ max (weight p (number k) + 0) 0
unfolding inner weight
inner-leaf p k x = refl

pub inner-node : (p : ℕ) (k : SyntaxKind) (kids : built.Forest)
    → inner p (built.node k kids built.none) ≡ max (weight p (number k) + inner (number k) kids) 0
unfolding inner weight
inner-node p k kids = refl

-- a node around trees whose place counts no other values
pub inner-same : (p q : ℕ) (f : built.Forest) → is_bare p ≡ true → is_bare q ≡ true → inner p f ≡ inner q f
unfolding inner
inner-same p q f h g = belows-same p q (numbered f) h g

-- a list nests no more than it has elements
pub inner-count : (p : ℕ) (f : built.Forest) → inner p f ≤ built.count f
unfolding inner weight
inner-count p built.none = omega arith
inner-count p (built.leaf k x rest) = let w = weight-le p (number k) in let r = inner-count p rest in
    omega (arith, w, r)
inner-count p (built.node k kids rest) = let w = weight-le p (number k) in let b = inner-count (number k) kids in
    let r = inner-count p rest in
    omega (arith, w, b, r)
