-- What the builder's calls name: start and finish are brackets, and wrap is an opening bracket at an earlier index.
use Rattle.std.specs.Prelude.{◌≡◌, ℕ, zero, suc, ◌+◌, ◌-◌, ◌≤◌, List, [], ◌∷◌, ◌++◌}
use Rattle.document_grammar.specs.Forests.{Forest, none, leaf, node, text, count, join}
use Rattle.document_grammar.specs.declared.kind.SyntaxKind.{SyntaxKind}

-- a node that is open: the trees before it in its parent, and its kind
pub record Open : Type 0 where
  pub before : Forest
  pub kind : SyntaxKind

-- what has been built: the trees in the innermost open node, and the open nodes from there outward
pub record Building : Type 0 where
  pub here : Forest
  pub above : List Open

abbrev pub nothing : Building
nothing = record { here = none; above = [] }

abbrev pub open_count : List Open → ℕ
open_count [] = 0
open_count (o ∷ above) = open_count above + suc (count o.before)

-- how many leaves and nodes there are
abbrev pub built_count : Building → ℕ
built_count b = open_count b.above + count b.here

abbrev pub open_text : List Open → List ℕ
open_text [] = []
open_text (o ∷ above) = open_text above ++ text o.before

abbrev pub built_text : Building → List ℕ
built_text b = open_text b.above ++ text b.here

abbrev pub start : SyntaxKind → Building → Building
start k b = record { here = none; above = record { before = b.here; kind = k } ∷ b.above }

abbrev pub add_leaf : SyntaxKind → List ℕ → Building → Building
add_leaf k s b = record { here = join b.here (leaf k s none); above = b.above }

-- the innermost open node becomes a tree of its parent
abbrev pub close : Forest → List Open → Building
close kids [] = record { here = kids; above = [] }
close kids (o ∷ above) = record { here = join o.before (node o.kind kids none); above = above }

abbrev pub finish : Building → Building
finish b = close b.here b.above

-- the trees among the first n elements, and the trees after them
abbrev pub front : ℕ → Forest → Forest
front zero f = none
front (suc n) none = none
front (suc n) (leaf k s rest) = leaf k s (front n rest)
front (suc n) (node k kids rest) = node k kids (front (n - count kids) rest)

abbrev pub back : ℕ → Forest → Forest
back zero f = f
back (suc n) none = none
back (suc n) (leaf k s rest) = back n rest
back (suc n) (node k kids rest) = back (n - count kids) rest

-- the elements after which a tree of the list ends or none has begun
abbrev pub IsSeam : ℕ → Forest → Type 0
IsSeam n f = count (front n f) ≡ n

abbrev pub wrap_at : ℕ → SyntaxKind → Building → Building
wrap_at n k b = record { here = back n b.here; above = record { before = front n b.here; kind = k } ∷ b.above }

-- a node opens at an earlier index of the innermost open node, counted in elements of the whole
abbrev pub wrap : ℕ → SyntaxKind → Building → Building
wrap index k b = wrap_at (index - open_count b.above) k b

-- the index is one between trees of the innermost open node
pub record CanOpenAt (index : ℕ) (b : Building) : Type 0 where
  pub inside : open_count b.above ≤ index
  pub seam : IsSeam (index - open_count b.above) b.here
