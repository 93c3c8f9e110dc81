use Rattle.std.proofs.Common.{◌≡◌, ◌++◌, map, take}
use Rattle.std.specs.List.{All, flat_map}
use Rattle.apollo_tree.specs.Order.{Place}
use Rattle.apollo_tree.specs.References.{node_place}
use Rattle.apollo_tree.specs.Yields.{rest_descendant_nodes}
use Rattle.validation_names.specs.Sites.{as_located, located}
use Rattle.type_system.specs.Schemas.{types}
use Rattle.query_validation.proofs.violations.judge_definition.Given as goal
use Rattle.query_validation.specs.Breaches.{as_breach, breaches_at, definition_breaches}
use Rattle.query_validation.specs.Repeats.{IsTable}
use Rattle.query_validation.specs.Stack.{IsLevel}

abbrev pub invariant-loop-node : goal.invariant-loop-node
invariant-loop-node l = record {
  listed :
      take l.most
      (map as_breach l.found.items
      ++ flat_map (breaches_at (types l.schema)) (map (located l.document) (rest_descendant_nodes l.node-iterator)))
      ≡ take l.most
      (map as_breach l.fn.found.items ++ definition_breaches (types l.schema) (as_located l.definition));
  levels : All (IsLevel (types l.schema) (node_place l.definition.node).whole) l.stack.items;
  table : IsTable l.document (node_place l.definition.node).whole l.table;
  tree : All (λ (p : Place). p.whole ≡ (node_place l.definition.node).whole) (rest_descendant_nodes l.node-iterator);
}
