use Rattle.std.proofs.Common.{◌≡◌, ◌++◌, drop, map}
use Rattle.apollo_tree.specs.Children.{child_nodes}
use Rattle.apollo_tree.specs.References.{node_place}
use Rattle.validation_names.specs.Sites.{all_definitions, as_located, in_documents_from}
use Rattle.type_system.proofs.definitions.all_definitions.Given as goal

abbrev pub invariant-loop-number : goal.invariant-loop-number
invariant-loop-number l =
    map as_located l.found.items
    ++ in_documents_from child_nodes l.number (map node_place (drop l.number l.fn.documents))
    ≡ all_definitions (map node_place l.fn.documents)
