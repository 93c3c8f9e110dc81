-- The names that definitions use, each once, and names that are entered.
use Rattle.std.specs.List.{fold}
use Rattle.std.specs.Prelude.{◌≡◌, ◌||◌, ℕ, List, [], ◌∷◌, ◌++◌, length, map, slice_index_or, Bool, is_some}
use Rattle.std.specs.Prelude.{if◌then◌else◌}
use Rattle.std.specs.declared.alloc.Global.{Global}
use Rattle.std.specs.declared.vec.Vec.{Vec}
use Rattle.validation_names.specs.Mentions.{Named, as_named}
use Rattle.validation_names.specs.Names.{Entries, Name, entry_of}
use Rattle.validation_names.specs.declared.name_mentions.Mention.{Mention}
use Rattle.validation_rules.specs.Parts.{Parts, at, has_item}

abbrev pub items_of : Vec Mention Global → List Named
items_of row = map as_named row.items

-- the row with a number
abbrev pub row_at : List (Vec Mention Global) → ℕ → List Named
row_at rows number = slice_index_or (map items_of rows) number []

-- the items before, and this one if none of them has its name
abbrev pub add_first : List Named → Named → List Named
add_first before item = if has_item before item.name then before else before ++ item ∷ []

-- the first item of each name
abbrev pub firsts_of : List Named → List Named
firsts_of items = fold add_first [] items

-- For each definition there is a row, which has the first use of each name.
pub record AreUsedNames (ds : List Parts) (rows : List (Vec Mention Global)) : Type 0 where
  pub as_many : length rows ≡ length ds
  pub each : (number : ℕ) → row_at rows number ≡ firsts_of (at ds number).used

-- whether the name is entered
abbrev pub is_known : {V : Type 0} → Entries V → Name → Bool
is_known entries name = is_some (entry_of entries name)

-- The new map has the names that the old one has, and those of the items.
abbrev pub AddsNames : {V : Type 0} → Entries V → Entries V → List Named → Type 0
AddsNames old new items = (name : Name) → is_known new name ≡ (is_known old name || has_item items name)

-- The names of the items are entered, and these are the first items of each name.
pub record AreFirsts {V : Type 0} (entries : Entries V) (firsts items : List Named) : Type 0 where
  pub known : (q : Name) → is_known entries q ≡ has_item items q
  pub are : firsts ≡ firsts_of items
