-- Trees that are added to the open node: one list after another, a node that was opened and closed, and one that opens
-- at an earlier index.
use Rattle.std.proofs.Common.{◌≡◌, ℕ, zero, suc, ◌+◌, ◌-◌, List, ◌∷◌, refl, sym, ap, ap₂, ◌∙◌, subst, arith}
use Rattle.document_grammar.proofs.Built.{front-join, back-join}
use Rattle.document_grammar.proofs.Joins.{join-none, join-assoc}
use Rattle.document_grammar.specs.Builds.{Building, start, add_leaf, close, finish, open_count, built_count, front}
use Rattle.document_grammar.specs.Builds.{wrap, IsSeam, CanOpenAt}
use Rattle.document_grammar.specs.Forests.{Forest, none, leaf, node, count, join}
use Rattle.document_grammar.specs.declared.kind.SyntaxKind.{SyntaxKind}

-- `t` is `b` with the trees `f` after those of the open node
pub record Added (f : Forest) (b t : Building) : Type 0 where
  pub above : t.above ≡ b.above
  pub here : t.here ≡ join b.here f

pub added-none : (b : Building) → Added none b b
added-none b = record { above = refl; here = sym (join-none b.here) }

pub added-leaf : (k : SyntaxKind) (x : List ℕ) (b : Building) → Added (leaf k x none) b (add_leaf k x b)
added-leaf k x b = record { above = refl; here = refl }

pub added-then : {f g : Forest} {b t u : Building} → Added f b t → Added g t u → Added (join f g) b u
added-then {f = f} {g = g} {b = b} h k =
    record { above = k.above ∙ h.above; here = k.here ∙ (ap (λ (x : Forest). join x g) h.here ∙ join-assoc b.here f g) }

pub added-node : {f : Forest} {b t : Building} (k : SyntaxKind) → Added f (start k b) t
    → Added (node k f none) b (finish t)
added-node {b = b} {t = t} k h =
    let e = ap (close t.here) h.above in record {
      above = ap (λ (z : Building). z.above) e;
      here = ap (λ (z : Building). z.here) e ∙ ap (λ (x : Forest). join b.here (node k x none)) h.here;
    }

-- the new node holds what was added since
pub wrap-added : (k : SyntaxKind) (b t : Building) (f : Forest) → t.above ≡ b.above → t.here ≡ join b.here f
    → wrap (built_count b) k t ≡ record { here = f; above = record { before = b.here; kind = k } ∷ b.above }
wrap-added k b t f a e =
    let left : (open_count b.above + count b.here) - open_count b.above ≡ count b.here = omega arith in
    ap₂ (λ above here. wrap (built_count b) k (record { here = here; above = above })) a e
    ∙ rw (left, front-join b.here f, back-join b.here f) refl

pub added-wrap : {f : Forest} {b t : Building} (k : SyntaxKind) → Added f b t
    → Added f (start k b) (wrap (built_count b) k t)
added-wrap {f = f} {b = b} {t = t} k h = let e = wrap-added k b t f h.above h.here in
    record { above = ap (λ (z : Building). z.above) e; here = ap (λ (z : Building). z.here) e }

-- ---- indices

-- a seam stays one when trees are added
seam-join : (n : ℕ) (f g : Forest) → IsSeam n f → IsSeam n (join f g)
seam-join zero f g h = refl
seam-join (suc n) none g h = absurd cc
seam-join (suc n) (leaf k s rest) g h = ap suc (seam-join n rest g (omega (arith, h)))
seam-join (suc n) (node k kids rest) g h =
    let m : count (front (n - count kids) rest) ≡ n - count kids = omega (arith, h) in
    let e = seam-join (n - count kids) rest g m in
    omega (arith, h, e)

-- the index after all that is built
pub can-open-last : (b : Building) → CanOpenAt (built_count b) b
can-open-last b = record {
  inside = omega arith;
  seam = let left : built_count b - open_count b.above ≡ count b.here = omega arith in let e = front-join b.here none in
      rw (left, ap count (rw join-none at e)) refl;
}

pub can-open-added : {f : Forest} {b t : Building} (index : ℕ) → Added f b t → CanOpenAt index b → CanOpenAt index t
can-open-added {f = f} {b = b} {t = t} index h m =
    subst (λ x. CanOpenAt index (record { here = x; above = t.above })) (sym h.here)
    (subst (λ above. CanOpenAt index (record { here = join b.here f; above = above })) (sym h.above)
    (record { inside = m.inside; seam = seam-join (index - open_count b.above) b.here f m.seam }))
