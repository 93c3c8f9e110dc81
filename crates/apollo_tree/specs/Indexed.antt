-- An element as plain numbers.
use Rattle.std.specs.Prelude.{ℕ, suc, ◌+◌, nat_lt, length, if◌then◌else◌, Option, Some, None}
use Rattle.document_grammar.specs.Forests.{Forest, count}
use Rattle.apollo_tree.specs.Order.{Place, order, element, tree_at, tree_kids, kind_at, range_at, is_node}
use Rattle.apollo_tree.specs.declared.indexed.IndexedElement.{IndexedElement}

abbrev pub indexed : Place → IndexedElement
indexed p = record {
  kind = kind_at p;
  is_node = is_node (tree_at p);
  start = (range_at p).0;
  end = (range_at p).1;
  parent = (element p).parent;
  after_subtree = p.index + suc (count (tree_kids (tree_at p)));
}

-- the element with an index, if there are more elements than that
abbrev pub element_at : Forest → ℕ → Option IndexedElement
element_at whole index =
    if nat_lt index (length (order whole)) then Some (indexed (record { whole = whole; index = index })) else None
