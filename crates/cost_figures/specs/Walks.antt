-- What the walk over the definitions keeps true.
use Rattle.std.specs.Prelude.{ℕ, ◌+◌, ◌-◌, ◌<◌, ◌≤◌, ◌≡◌, List, [], ◌∷◌, ◌++◌, length, take, slice_index_or, ◌⊎◌, Bool}
use Rattle.std.specs.Prelude.{MatchBool}
use Rattle.cost_figures.specs.Counts.{figures_of}
use Rattle.cost_figures.specs.Expansion.{Expands, definition}
use Rattle.cost_figures.specs.declared.figures.Figures.{Figures}
use Rattle.cost_figures.specs.declared.items.Item.{Item}
use Rattle.cost_figures.specs.declared.items.Item.TheVariants.{Spread}
use Rattle.cost_figures.specs.declared.items.Span.{Span}
use Rattle.cost_figures.specs.declared.walk.Frame.{Frame}
use Rattle.cost_figures.specs.declared.walk.Mark.{Mark}
use Rattle.cost_figures.specs.declared.walk.Mark.TheVariants.{Untouched, Open, Done}
use Rattle.cost_figures.specs.declared.walk.OpenDefinitions.{OpenDefinitions}

-- `f` are the figures of an expansion of `xs`
pub record Measured (d : List (List Item)) (xs : List Item) (f : Figures) : Type 0 where
  pub expansion : List Item
  pub expands : Expands d xs expansion
  pub figures : f ≡ figures_of expansion

-- the item of a list at a place
abbrev pub IsAt : List Item → ℕ → Item → Type 0
IsAt xs i x = (i < length xs) × (slice_index_or xs i x ≡ x)

-- a frame has the figures of the items before its next one
pub record IsFrame (d : List (List Item)) (f : Frame) : Type 0 where
  pub is_one : f.definition < length d
  pub in_range : f.next ≤ length (definition d f.definition)
  pub so_far : Measured d (take f.next (definition d f.definition)) f.figures

-- the frame after one more item, which expands to a list with the figures `g`
pub record IsPast (old new : Frame) (g : Figures) : Type 0 where
  pub definition : new.definition ≡ old.definition
  pub next : new.next ≡ old.next + 1
  pub figures : (xs ys : List Item) → old.figures ≡ figures_of xs → g ≡ figures_of ys
      → new.figures ≡ figures_of (xs ++ ys)

-- the next item of a frame is a spread of `k`
pub record WaitsAt (d : List (List Item)) (f : Frame) (k : ℕ) : Type 0 where
  pub enclosing : ℕ
  pub span : Span
  pub is_there : IsAt (definition d f.definition) f.next (Spread enclosing k span)

-- each frame waits for the next one, and the last one for the current one
pub data Path (d : List (List Item)) : List Frame → Frame → Type 0 where
  start : {f : Frame} → IsFrame d f → Path d [] f
  deeper : {fs : List Frame} {f g : Frame} → Path d fs f → WaitsAt d f g.definition → IsFrame d g
      → Path d (fs ++ f ∷ []) g

-- the definition that the walk began with
abbrev pub first : List Frame → Frame → ℕ
first [] f = f.definition
first (g ∷ fs) f = g.definition

abbrev pub root : {A : Type 0} → OpenDefinitions A → ℕ
root w = first w.waiting.items w.current

abbrev pub Among : ℕ → List Frame → Type 0
Among k [] = ⊥
Among k (f ∷ fs) = (k ≡ f.definition) ⊎ Among k fs

abbrev pub mark : List Mark → ℕ → Mark
mark ms k = slice_index_or ms k Untouched

-- the figures that are noted are right
pub record Noted (d : List (List Item)) (ms : List Mark) : Type 0 where
  pub marked : length ms ≡ length d
  pub done : (k : ℕ) (f : Figures) → mark ms k ≡ Done f → Measured d (definition d k) f

-- what is true between two steps
pub record Sound {A : Type 0} (d : List (List Item)) (w : OpenDefinitions A) : Type 0 where
  pub noted : Noted d w.marks.items
  pub waits : (k : ℕ) → mark w.marks.items k ≡ Open → (k ≡ w.current.definition) ⊎ Among k w.waiting.items
  pub path : Path d w.waiting.items w.current

-- what is true where no definition is open
pub record Idle {A : Type 0} (d : List (List Item)) (w : OpenDefinitions A) : Type 0 where
  pub noted : Noted d w.marks.items
  pub none_open : (k : ℕ) → mark w.marks.items k ≡ Open → ⊥
  pub none_waits : w.waiting.items ≡ []

-- what is true at the end of a walk
pub record Finished {A : Type 0} (d : List (List Item)) (w : OpenDefinitions A) : Type 0 where
  pub idle : Idle d w
  pub measured : Measured d (definition d w.current.definition) w.current.figures

-- The steps that are left. Each item is one, and each definition is entered and left once.
abbrev pub untouched : List (List Item) → List Mark → ℕ
untouched (xs ∷ d) (Untouched ∷ ms) = untouched d ms + (length xs + 2)
untouched (xs ∷ d) (Open ∷ ms) = untouched d ms
untouched (xs ∷ d) (Done f ∷ ms) = untouched d ms
untouched _ _ = 0

abbrev pub left_in : List (List Item) → Frame → ℕ
left_in d f = (length (definition d f.definition) - f.next) + 1

abbrev pub left_in_all : List (List Item) → List Frame → ℕ
left_in_all d [] = 0
left_in_all d (f ∷ fs) = left_in d f + left_in_all d fs

abbrev pub steps_left : {A : Type 0} → List (List Item) → OpenDefinitions A → ℕ
steps_left d w = untouched d w.marks.items + left_in_all d w.waiting.items + left_in d w.current

-- what is true after a step, while there is more to do
pub record Nearer {A : Type 0} (d : List (List Item)) (old new : OpenDefinitions A) : Type 0 where
  pub sound : Sound d new
  pub smaller : steps_left d new < steps_left d old

-- one step
pub record Goes {A : Type 0} (d : List (List Item)) (old new : OpenDefinitions A) (more : Bool) : Type 0 where
  pub root : root new ≡ root old
  pub state : MatchBool more (Nearer d old new) (Finished d new)
