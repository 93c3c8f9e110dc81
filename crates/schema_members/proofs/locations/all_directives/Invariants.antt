use Rattle.std.proofs.Common.{◌≡◌, ◌++◌, map, drop}
use Rattle.std.specs.List.{filter}
use Rattle.apollo_tree.specs.References.{node_place}
use Rattle.validation_names.specs.Sites.{all_definitions, as_located}
use Rattle.schema_members.proofs.locations.all_directives.Given as goal
use Rattle.schema_members.specs.Locations.{is_directive_for}

abbrev pub invariant-loop-definition : goal.invariant-loop-definition
invariant-loop-definition l =
    map as_located l.found.items
    ++ filter (is_directive_for l.location) (map as_located (drop l.definition-index l.definition-items))
    ≡ filter (is_directive_for l.location) (all_definitions (map node_place l.schema.roots.now))
