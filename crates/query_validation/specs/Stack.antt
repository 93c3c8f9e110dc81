-- What is kept of the nodes above a node.
use Rattle.std.specs.Prelude.{◌≡◌}
use Rattle.document_grammar.specs.Forests.{Forest}
use Rattle.apollo_tree.specs.Above.{at_or_above}
use Rattle.type_system.specs.Types.{Types}
use Rattle.query_validation.specs.Contexts.{as_context, inside}
use Rattle.query_validation.specs.declared.stack.Level.{Level}

-- A level has the context inside the node of a tree that has its number.
pub record IsLevel (T : Types) (tree : Forest) (level : Level) : Type 0 where
  pub holds : as_context level.inside ≡ inside T (at_or_above (record { whole = tree; index = level.index }))
