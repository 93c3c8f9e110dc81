use Rattle.std.proofs.Common.{◌≡◌, ◌++◌, drop, map}
use Rattle.std.specs.List.{filter_map}
use Rattle.apollo_tree.specs.Children.{child_nodes}
use Rattle.apollo_tree.specs.References.{node_place}
use Rattle.validation_names.proofs.executables.definitions.Given as goal
use Rattle.validation_names.specs.Definitions.{as_defined, defined, defined_at}
use Rattle.validation_names.specs.Sites.{in_documents_from}

abbrev pub invariant-loop-number : goal.invariant-loop-number
invariant-loop-number g l =
    map as_defined l.definitions.items
    ++ filter_map defined_at (in_documents_from child_nodes l.number (map node_place (drop l.number l.documents)))
    ≡ defined (map node_place l.documents)
