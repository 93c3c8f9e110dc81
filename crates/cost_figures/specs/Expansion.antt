-- What it means to expand a definition (GraphQL October 2021, section 2.8): to put what the fragment selects in place
-- of each fragment spread.
--
-- `d` are the definitions of some documents, each the list of its items. A spread names a definition by its number.
use Rattle.std.specs.Prelude.{ℕ, ◌+◌, ◌<◌, ◌≡◌, Bool, true, false, List, [], ◌∷◌, ◌++◌, length, map, slice_index_or}
use Rattle.std.specs.Prelude.{Contains}
use Rattle.cost_figures.specs.declared.items.Item.{Item}
use Rattle.cost_figures.specs.declared.items.Item.TheVariants.{Field, ResponseName, Alias, Directive, Spread}
use Rattle.cost_figures.specs.declared.items.Span.{Span}

-- the definition with a number
abbrev pub definition : List (List Item) → ℕ → List Item
definition d k = slice_index_or d k []

-- an item where `n` fields more enclose it
abbrev pub below : ℕ → Item → Item
below n (Field e) = Field (n + e)
below n (ResponseName e) = ResponseName (n + e)
below n (Spread e k i) = Spread (n + e) k i
below n Alias = Alias
below n Directive = Directive

abbrev pub within : ℕ → List Item → List Item
within n xs = map (below n) xs

abbrev pub is_spread : Item → Bool
is_spread (Spread e k i) = true
is_spread _ = false

-- `Expands d xs ys`: `ys` is `xs` with the expansion of the fragment in place of each spread
pub data Expands (d : List (List Item)) : List Item → List Item → Type 0 where
  nothing : Expands d [] []
  other : {x : Item} {xs ys : List Item} → is_spread x ≡ false → Expands d xs ys → Expands d (x ∷ xs) (x ∷ ys)
  spread : {e k : ℕ} {s : Span} {xs ys zs : List Item} → k < length d → Expands d (definition d k) zs → Expands d xs ys
      → Expands d (Spread e k s ∷ xs) (within e zs ++ ys)

-- the definition `j` has a spread of `k`
pub record Spreads (d : List (List Item)) (j k : ℕ) : Type 0 where
  pub enclosing : ℕ
  pub span : Span
  pub is_there : Contains (definition d j) (Spread enclosing k span)

-- `Leads d j k`: no or more spreads, each in the definition that the one before it names, lead from `j` to `k`
pub data Leads (d : List (List Item)) : ℕ → ℕ → Type 0 where
  here : {j : ℕ} → Leads d j j
  onward : {j k m : ℕ} → Leads d j k → Spreads d k m → Leads d j m

-- one or more spreads lead from `j` to `k`
pub record Reaches (d : List (List Item)) (j k : ℕ) : Type 0 where
  pub last : ℕ
  pub leads : Leads d j last
  pub spreads : Spreads d last k
