-- Elements in twelve bytes.
use Rattle.std.specs.Int.{from_bool}
use Rattle.std.specs.Prelude.{ℕ, suc, ◌+◌, ◌-◌, ◌*◌, ◌/◌, ◌%◌, ◌^◌, List, [], ◌∷◌, unwrap_or}
use Rattle.document_grammar.specs.Forests.{Forest, count}
use Rattle.document_grammar.specs.Numbers.{number}
use Rattle.apollo_tree.specs.Order.{Element, is_node, order, tree_kids, tree_kind}
use Rattle.apollo_tree.specs.declared.compact.CompactElement.{CompactElement}
use Rattle.apollo_tree.specs.declared.record.Record.{Record}

-- The four numbers of a record, and its kind.
abbrev pub compact_record : Record → CompactElement
compact_record r = record {
  start_and_node = r.start + 2 ^ 31 * from_bool r.is_node;
  size_and_parent = 16 * r.size + r.to_parent / 2 ^ 24;
  parent_low = r.to_parent % 2 ^ 16;
  parent_middle = r.to_parent / 2 ^ 16 % 2 ^ 8;
  kind = number r.kind;
}

-- How many elements before an element its parent is; 0 for the root.
abbrev pub to_parent : ℕ → Element → ℕ
to_parent index e = index - unwrap_or e.parent index

-- The element with an index.
abbrev pub compact : ℕ → Element → CompactElement
compact index e = compact_record (record {
  kind = tree_kind e.tree;
  is_node = is_node e.tree;
  start = e.start;
  size = suc (count (tree_kids e.tree));
  to_parent = to_parent index e;
})

-- The elements of a list, of which the first has the index.
abbrev pub compact_from : ℕ → List Element → List CompactElement
compact_from index [] = []
compact_from index (e ∷ es) = compact index e ∷ compact_from (suc index) es

-- The elements of a tree, in document order.
abbrev pub compact_elements : Forest → List CompactElement
compact_elements tree = compact_from 0 (order tree)
