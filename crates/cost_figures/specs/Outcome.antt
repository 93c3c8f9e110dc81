-- What the figures of a definition are, and why there are none.
use Rattle.std.specs.Prelude.{ℕ, ◌<◌, ◌≤◌, ◌≡◌, List, [], ◌∷◌, length, Contains}
use Rattle.cost_figures.specs.Counts.{figures_of}
use Rattle.cost_figures.specs.Expansion.{Expands, definition, Spreads, Leads, Reaches}
use Rattle.cost_figures.specs.declared.figures.Figures.{Figures}
use Rattle.cost_figures.specs.declared.items.Item.{Item}
use Rattle.cost_figures.specs.declared.items.Item.TheVariants.{Spread}
use Rattle.cost_figures.specs.declared.items.Span.{Span}
use Rattle.cost_figures.specs.declared.walk.Fault.{Fault}
use Rattle.cost_figures.specs.declared.walk.Fault.TheVariants.{Cycle, Undefined, Memory}

-- `f` are the figures of the expansion of the definition `r`
pub record IsMeasured (d : List (List Item)) (r : ℕ) (f : Figures) : Type 0 where
  -- it has an expansion
  pub expansion : List Item
  pub expands : Expands d (definition d r) expansion
  -- and no other
  pub only : (ys : List Item) → Expands d (definition d r) ys → ys ≡ expansion
  -- the figures are those of the expansion
  pub figures : f ≡ figures_of expansion
  -- no definition to which it leads is part of a cycle, and each fragment that is spread there is defined
  pub acyclic : (k : ℕ) → Leads d r k → Reaches d k k → ⊥
  pub defined : (j k : ℕ) → Leads d r j → Spreads d j k → k < length d

-- `fs` are the figures of the definitions `rs`, one for one
pub data AreMeasured (d : List (List Item)) : List ℕ → List Figures → Type 0 where
  none : AreMeasured d [] []
  next : {r : ℕ} {f : Figures} {rs : List ℕ} {fs : List Figures} → IsMeasured d r f → AreMeasured d rs fs
      → AreMeasured d (r ∷ rs) (f ∷ fs)

-- The definition `r` leads to a definition, and the spread there that is at `span` is one of a fragment that leads back
-- to that definition. So both are on the cycle.
pub record IsCycle (d : List (List Item)) (r : ℕ) (span : Span) : Type 0 where
  pub holder : ℕ
  pub fragment : ℕ
  pub enclosing : ℕ
  pub is_there : Contains (definition d holder) (Spread enclosing fragment span)
  pub leads : Leads d r holder
  pub back : Leads d fragment holder

-- the definition `r` leads to a definition, and the spread there that is at `span` is one of no definition
pub record IsUndefined (d : List (List Item)) (r : ℕ) (span : Span) : Type 0 where
  pub holder : ℕ
  pub fragment : ℕ
  pub enclosing : ℕ
  pub is_there : Contains (definition d holder) (Spread enclosing fragment span)
  pub leads : Leads d r holder
  pub unknown : length d ≤ fragment

-- what a fault says of the definition `r`
abbrev pub Explains : List (List Item) → ℕ → Fault → Type 0
Explains d r (Cycle i) = IsCycle d r i
Explains d r (Undefined i) = IsUndefined d r i
Explains d r Memory = Unit {0}

-- what a fault says of the definitions `rs`
abbrev pub ExplainsAny : List (List Item) → List ℕ → Fault → Type 0
ExplainsAny d rs (Cycle i) = (r : ℕ) × Contains rs r × IsCycle d r i
ExplainsAny d rs (Undefined i) = (r : ℕ) × Contains rs r × IsUndefined d r i
ExplainsAny d rs Memory = Unit {0}
