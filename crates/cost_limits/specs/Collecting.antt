-- What the walk over the nodes of a definition keeps true.
use Rattle.std.specs.Prelude.{◌≡◌, ℕ, ◌+◌, ◌-◌, ◌^◌, ◌<◌, suc, List, [], ◌∷◌, ◌++◌, length, Bool, is_some, Option, Some}
use Rattle.std.specs.Prelude.{None, unwrap_or}
use Rattle.document_grammar.specs.Forests.{Forest, none, leaf, node, count}
use Rattle.apollo_tree.specs.Order.{Element, Place, order, order_from}
use Rattle.validation_names.specs.Names.{Name, Entries, entry_of}
use Rattle.validation_names.specs.Sites.{Located}
use Rattle.cost_figures.specs.declared.items.Item.{Item}
use Rattle.cost_limits.specs.Items.{spot, is_among, is_new, with_name, items_of, seen_after, items_below}
use Rattle.cost_limits.specs.declared.introspection.Introspection.{Introspection}

-- the number that a fragment's name has in a map
abbrev pub number_of : Entries ℕ → Option Name → ℕ
number_of fragments None = 2 ^ 64 - 1
number_of fragments (Some s) = unwrap_or (entry_of fragments s) (2 ^ 64 - 1)

-- a map has these names
abbrev pub AreNames : Entries (Unit {0}) → List Name → Type 0
AreNames names seen = (s : Name) → is_some (entry_of names s) ≡ is_among seen s

-- a response name after `seen`
pub record IsNoted (name : Option Name) (seen : List Name) (names : Entries (Unit {0})) (new : Bool) : Type 0 where
  pub new_is : new ≡ is_new seen name
  pub names_are : AreNames names (with_name name seen)

-- one more node
pub record Adds (number : Option Name → ℕ) (n : ℕ) (s : Located) (seen : List Name) (old new : List Item)
    (names : Entries (Unit {0})) : Type 0 where
  pub items_are : new ≡ old ++ items_of number n seen s
  pub names_are : AreNames names (seen_after seen s.place)

-- the elements from `i` up to `end` are those of the trees `f`
pub record ArePart (whole : Forest) (i end : ℕ) (f : Forest) : Type 0 where
  pub start : ℕ
  pub parent : Option ℕ
  pub before : List Element
  pub after : List Element
  pub is : order whole ≡ before ++ (order_from start i parent f ++ after)
  pub begins : length before ≡ i
  pub ends : end ≡ i + count f

-- the nodes among trees of which the first is the element `i`
abbrev pub nodes_from : Forest → ℕ → Forest → List Place
nodes_from whole i none = []
nodes_from whole i (leaf k s rest) = nodes_from whole (suc i) rest
nodes_from whole i (node k kids rest) = spot whole i ∷ nodes_from whole (suc (i + count kids)) rest

-- what is left of the children of the element `p` of the document with the number `d`: `left` are the nodes among them,
-- `all` is what there is to be found, and `found` what has been
pub record IsLeft (introspection : Introspection) (d : ℕ) (p : Place) (number : Option Name → ℕ) (n : ℕ)
    (all found : List Item) (names : Entries (Unit {0})) (left : List Place) : Type 0 where
  pub rest : Forest
  pub index : ℕ
  pub end : ℕ
  pub seen : List Name
  pub part : ArePart p.whole index end rest
  pub further : p.index < index
  pub left_are : left ≡ nodes_from p.whole index rest
  pub names_are : AreNames names seen
  pub same : found ++ items_below introspection d p.whole number n index seen rest ≡ all
