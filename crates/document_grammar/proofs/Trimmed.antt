-- Ignored leaves are placed where no node but the root begins or ends with one: of built trees.
use Rattle.std.proofs.Common.{◌≡◌, ◌≢◌, ℕ, Bool, true, false, not, eqb, ltb, List, [], ◌∷◌, ◌++◌, refl, sym, ap, ◌∙◌}
use Rattle.std.proofs.Common.{inl, inr, true≢false}
use Rattle.document_grammar.proofs.Booleans.{and-i, and-l, and-r, not-c, either, false-true}
use Rattle.document_grammar.proofs.Nullable.{nullable, nullable-to, nil-parts}
use Rattle.document_grammar.specs.Booleans.{◌and◌, ◌or◌}
use Rattle.document_grammar.specs.Builds.{Building, Open, finish, close}
use Rattle.document_grammar.specs.Derivation.{kinds, Yield, Yields, Fits, AllFit}
use Rattle.document_grammar.specs.Forests as built
use Rattle.document_grammar.specs.Kinds.{ERROR}
use Rattle.document_grammar.specs.Numbered.{numbered, tree_of}
use Rattle.document_grammar.specs.Numbers.{number}
use Rattle.document_grammar.specs.Pattern.{Pattern, Matches}
use Rattle.document_grammar.specs.Placed.{ignored, bare, bares, Between, AllPlaced, Placed}
use Rattle.document_grammar.specs.Rows.{Row, row_in, children}
use Rattle.document_grammar.specs.Tree.{Token, Tree, leaf, node, Forest, none, ◌▸◌}
use Rattle.document_grammar.specs.declared.kind.SyntaxKind.{SyntaxKind}

abbrev pub is_ignored : SyntaxKind → Bool
is_ignored k = ltb (number k) ERROR

-- the first tree is no ignored leaf
abbrev pub starts_well : built.Forest → Bool
starts_well built.none = true
starts_well (built.leaf k x rest) = not (is_ignored k)
starts_well (built.node k kids rest) = true

-- the last tree is no ignored leaf; of no tree, what is given
abbrev pub ends_with : Bool → built.Forest → Bool
ends_with b built.none = b
ends_with b (built.leaf k x rest) = ends_with (not (is_ignored k)) rest
ends_with b (built.node k kids rest) = ends_with true rest

-- the same of each node's children
abbrev pub trim : built.Forest → Bool
trim built.none = true
trim (built.leaf k x rest) = trim rest
trim (built.node k kids rest) = (starts_well kids and (ends_with true kids and trim kids)) and trim rest

pub starts-join : (f g : built.Forest) → starts_well f ≡ true → (f ≡ built.none → starts_well g ≡ true)
    → starts_well (built.join f g) ≡ true
starts-join built.none g a b = b refl
starts-join (built.leaf k x rest) g a b = a
starts-join (built.node k kids rest) g a b = a

pub ends-join : (b : Bool) (f g : built.Forest) → ends_with b (built.join f g) ≡ ends_with (ends_with b f) g
ends-join b built.none g = refl
ends-join b (built.leaf k x rest) g = ends-join (not (is_ignored k)) rest g
ends-join b (built.node k kids rest) g = ends-join true rest g

pub trim-join : (f g : built.Forest) → trim f ≡ true → trim g ≡ true → trim (built.join f g) ≡ true
trim-join built.none g a b = b
trim-join (built.leaf k x rest) g a b = trim-join rest g a b
trim-join (built.node k kids rest) g a b = and-i (and-l _ _ a) (trim-join rest g (and-r _ _ a) b)

-- the trees after the first one fit
pub fits-tail : (t : Tree) (f : Forest) → AllFit (bares (t ▸ f)) → AllFit (bares f)
fits-tail t f h = elim (either (ignored t))
    [ inl e ↦ (rw e at h) | inr e ↦ (let g : AllFit (bare t ▸ bares f) = rw e at h in g.1) ]

-- No node's row is empty.
all_some : List (ℕ × Pattern) → Bool
all_some [] = true
all_some (row ∷ more) = not (nullable row.1) and all_some more

rows-some : all_some children ≡ true
unfolding all_some ◌and◌ ◌or◌
rows-some = refl

some-in : (l : List (ℕ × Pattern)) (k : ℕ) → all_some l ≡ true → nullable (row_in l k) ≡ false
unfolding all_some
some-in [] k h = refl
some-in (row ∷ more) k h = elim (either (eqb row.0 k)) [
  | inl e ↦ rw e (not-c _ (and-l _ _ h))
  | inr e ↦ rw e (some-in more k (and-r _ _ h))
]

row-some : (k : ℕ) (w : List ℕ) → w ≡ [] → Matches (Row k) w → ⊥
unfolding Row
row-some k w e h = false-true (some-in children k rows-some) (nullable-to (row_in children k) w e h)

-- A node that fits spells some token.
mutual
  spells-tree : (t : Tree) → ignored t ≡ false → Fits (bare t) → Yield t ≢ []
  spells-tree (leaf k x) i h = rw i (λ z. absurd cc)
  spells-tree (node k f) i h = spells-forest f h.4 (λ e. row-some k (kinds (bares f)) e h.0)

  spells-forest : (f : Forest) → AllFit (bares f) → (kinds (bares f) ≡ [] → ⊥) → Yields f ≢ []
  spells-forest none h n = λ z. n refl
  spells-forest (t ▸ f) h n = elim (either (ignored t)) [
    | inl e ↦ λ z. spells-forest f (fits-tail t f h) (λ y. n (rw e y)) (nil-parts (Yield t) (Yields f) z).1
    | inr e ↦ λ z. (let g : AllFit (bare t ▸ bares f) = rw e at h in
        spells-tree t e g.0 (nil-parts (Yield t) (Yields f) z).0)
  ]

-- What begins behind an ignored leaf and ends with none spells something. So behind something such a list has its
-- ignored leaves in place; and so has one that begins with none.
ends-spell : (f : built.Forest) → ends_with false f ≡ true → AllFit (bares (numbered f)) → Yields (numbered f) ≢ []
ends-spell built.none h a = absurd (true≢false (sym h))
ends-spell (built.leaf k x rest) h a = elim (either (is_ignored k)) [
  | inl p ↦ λ z. ends-spell rest (rw p at h) (fits-tail (leaf (number k) x) (numbered rest) a)
      (nil-parts (Yield (leaf (number k) x)) (Yields (numbered rest)) z).1
  | inr p ↦ λ z. (let g : AllFit (leaf (number k) x ▸ bares (numbered rest)) = rw p at a in
      spells-tree (leaf (number k) x) p g.0 (nil-parts (Yield (leaf (number k) x)) (Yields (numbered rest)) z).0)
]
ends-spell (built.node k kids rest) h a = λ z. spells-tree (node (number k) (numbered kids)) refl a.0
    (nil-parts (Yields (numbered kids)) (Yields (numbered rest)) z).0

between : (c : Bool) (b : List Token) (f : built.Forest) → b ≢ [] → ends_with c f ≡ true → AllFit (bares (numbered f))
    → Between b (numbered f)
between c b built.none n e a = tt
between c b (built.leaf k x rest) n e a =
    let r = fits-tail (leaf (number k) x) (numbered rest) a in (
      (λ i. (n, ends-spell rest (rw i at e) r)),
      between (not (is_ignored k)) (b ++ Yield (leaf (number k) x)) rest (λ z. n (nil-parts b _ z).0) e r,
    )
between c b (built.node k kids rest) n e a =
    ((λ i. false-true refl i), between true (b ++ Yields (numbered kids)) rest (λ z. n (nil-parts b _ z).0) e a.1)

from-start : (f : built.Forest) → starts_well f ≡ true → ends_with true f ≡ true → AllFit (bares (numbered f))
    → Between [] (numbered f)
from-start built.none s e a = tt
from-start (built.leaf k x rest) s e a =
    let p = not-c _ s in
    let g : AllFit (leaf (number k) x ▸ bares (numbered rest)) = rw p at a in (
      (λ i. false-true p i),
      between (not (is_ignored k)) (Yield (leaf (number k) x)) rest (spells-tree (leaf (number k) x) p g.0) e g.1,
    )
from-start (built.node k kids rest) s e a = (
  (λ i. false-true refl i),
  between true (Yields (numbered kids)) rest (spells-tree (node (number k) (numbered kids)) refl a.0) e a.1,
)

trims : (f : built.Forest) → trim f ≡ true → AllFit (bares (numbered f)) → AllPlaced (numbered f)
trims built.none h a = tt
trims (built.leaf k x rest) h a = (tt, trims rest h (fits-tail (leaf (number k) x) (numbered rest) a))
trims (built.node k kids rest) h a =
    let g = and-l _ _ h in
    let e = and-r _ _ g in
    ((from-start kids (and-l _ _ g) (and-l _ _ e) a.0.4, trims kids (and-r _ _ e) a.0.4), trims rest (and-r _ _ h) a.1)

pub root-placed : (b : Building) (o : Open) → o.before ≡ built.none → b.above ≡ o ∷ [] → trim b.here ≡ true
    → Fits (bare (tree_of (finish b).here))
    → Placed (tree_of (finish b).here)
root-placed b o n a h =
    let e : (finish b).here ≡ built.node o.kind b.here built.none =
    ap (λ (above : List Open). (close b.here above).here) a
    ∙ ap (λ (f : built.Forest). built.join f (built.node o.kind b.here built.none)) n in
    rw e (λ g. trims b.here h g.4)
