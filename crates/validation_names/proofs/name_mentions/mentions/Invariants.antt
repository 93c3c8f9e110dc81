use Rattle.std.proofs.Common.{◌≡◌, ◌++◌, map}
use Rattle.std.specs.List.{filter_map}
use Rattle.apollo_tree.specs.Yields.{rest_descendant_nodes}
use Rattle.validation_names.proofs.name_mentions.mentions.Given as goal
use Rattle.validation_names.specs.Mentions.{as_named, mentioned, mentions}
use Rattle.validation_names.specs.Sites.{as_located, located}

abbrev pub invariant-loop-node : goal.invariant-loop-node
invariant-loop-node g l =
    map as_named l.found.items
    ++ filter_map (mentioned l.mention) (map (located l.root.document) (rest_descendant_nodes l.node-iterator))
    ≡ mentions l.mention (as_located l.root)
