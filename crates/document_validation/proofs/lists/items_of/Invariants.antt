use Rattle.std.proofs.Common.{◌≡◌, ◌++◌, map}
use Rattle.std.specs.List.{filter_map}
use Rattle.apollo_tree.specs.Yields.{rest_nodes}
use Rattle.validation_names.specs.Mentions.{as_named}
use Rattle.validation_names.specs.Sites.{as_located, located}
use Rattle.document_validation.proofs.lists.items_of.Given as goal
use Rattle.document_validation.specs.Lists.{item_of, items_of}

abbrev pub invariant-loop-node : goal.invariant-loop-node
invariant-loop-node l =
    map as_named l.items.items
    ++ filter_map item_of (map (located l.site.document) (rest_nodes l.node-iterator)) ≡ items_of (as_located l.site)
