use Rattle.std.proofs.Common.{◌≡◌, ◌+◌, length, take}
use Rattle.std.specs.List.{sum_by}
use Rattle.directed_graph.specs.Graph.{row_of}
use Rattle.variable_rules.proofs.operations.walk_steps.Given as goal
use Rattle.variable_rules.specs.Steps.{capped}
use Rattle.variable_rules.specs.UsedNames.{row_at}

abbrev pub invariant-loop-number : goal.invariant-loop-number
invariant-loop-number l =
    l.steps ≡ capped (sum_by (λ number. length (row_at l.names number) + length (row_of l.graph number) + 1)
    (take l.number-index l.numbers))
