-- The figures of operations: there is one list of them, and none where there is an error.
use Rattle.std.proofs.Common.{◌≡◌, ℕ, zero, suc, ◌<◌, List, ◌∷◌, length, refl, sym, ap, ap₂, ◌∙◌, subst, arith, get_or}
use Rattle.std.specs.Prelude.{Contains}
use Rattle.cost_figures.specs.Counts.{figures_of}
use Rattle.cost_figures.specs.Expansion.{Leads, here, onward, Reaches, Spreads}
use Rattle.cost_figures.specs.Outcome.{IsMeasured, AreMeasured, none, next, IsCycle, IsUndefined}
use Rattle.cost_figures.specs.declared.figures.Figures.{Figures}
use Rattle.cost_figures.specs.declared.items.Item.{Item}
use Rattle.cost_figures.specs.declared.items.Span.{Span}

same_figures : (d : List (List Item)) (r : ℕ) (f g : Figures) → IsMeasured d r f → IsMeasured d r g → f ≡ g
same_figures d r f g m n = m.figures ∙ ap figures_of (n.only m.expansion m.expands) ∙ sym n.figures

pub one_list : {d : List (List Item)} {rs : List ℕ} {fs gs : List Figures} → AreMeasured d rs fs
    → AreMeasured d rs gs → fs ≡ gs
one_list none none = refl
one_list (next m ms) (next n ns) =
    ap₂ (λ (x : Figures) (xs : List Figures). x ∷ xs) (same_figures _ _ _ _ m n) (one_list ms ns)

measured_at : {d : List (List Item)} {rs : List ℕ} {fs : List Figures} (r i : ℕ) → AreMeasured d rs fs
    → i < length rs → get_or rs i r ≡ r
    → (f : Figures) × IsMeasured d r f
measured_at r i none inside e = absurd (omega (arith, inside))
measured_at {d} r zero (next {f = f} m ms) inside e = (f, subst (λ (k : ℕ). IsMeasured d k f) e m)
measured_at r (suc i) (next m ms) inside e = measured_at r i ms (omega (arith, inside)) e

measured_each : {d : List (List Item)} {rs : List ℕ} {fs : List Figures} (r : ℕ) → AreMeasured d rs fs → Contains rs r
    → (f : Figures) × IsMeasured d r f
measured_each r ms there = measured_at r there.0 ms there.1 there.2

-- a spread, and then others
prepend : {d : List (List Item)} {j k l : ℕ} → Spreads d j k → Leads d k l → Leads d j l
prepend s here = onward here s
prepend s (onward p t) = onward (prepend s p) t

back_again : {d : List (List Item)} {j k : ℕ} → Spreads d j k → Leads d k j → Reaches d j j
back_again s here = record { last = _; leads = here; spreads = s }
back_again s (onward p t) = record { last = _; leads = prepend s p; spreads = t }

pub no_cycle : {d : List (List Item)} {rs : List ℕ} {fs : List Figures} (r : ℕ) (span : Span) → AreMeasured d rs fs
    → Contains rs r → IsCycle d r span → ⊥
no_cycle r span ms there c =
    let m = measured_each r ms there in
    m.1.acyclic c.holder c.leads
    (back_again (record { enclosing = c.enclosing; span = span; is_there = c.is_there }) c.back)

pub all_defined : {d : List (List Item)} {rs : List ℕ} {fs : List Figures} (r : ℕ) (span : Span)
    → AreMeasured d rs fs → Contains rs r
    → IsUndefined d r span → ⊥
all_defined r span ms there u =
    let m = measured_each r ms there in
    omega (
      arith,
      m.1.defined u.holder u.fragment u.leads
          (record { enclosing = u.enclosing; span = span; is_there = u.is_there }),
      u.unknown,
    )
