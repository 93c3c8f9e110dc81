use Rattle.std.specs.List.{All}
use Rattle.apollo_tree.specs.References.{token_place}
use Rattle.schema_members.proofs.usage.Uses.in_document.Given as goal
use Rattle.schema_members.specs.Uses.{IsIdentifier}

abbrev pub invariant-loop-node : goal.invariant-loop-node
invariant-loop-node l = All (λ leaf. IsIdentifier l.self.name.now (token_place leaf)) l.found.items
