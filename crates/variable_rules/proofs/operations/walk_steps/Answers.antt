use Rattle.std.proofs.Common.{◌+◌, arith, length, ap}
use Rattle.std.proofs.lemmas.List.{length-map}
use Rattle.std.proofs.lemmas.List.Sums.{sum_by_more}
use Rattle.directed_graph.specs.Graph.{row_of}
use Rattle.validation_names.specs.Mentions.{as_named}
use Rattle.variable_rules.proofs.operations.walk_steps.Goals as goal
use Rattle.variable_rules.specs.UsedNames.{row_at}

pub edges-requires : goal.edges-requires
edges-requires c =
    let l = c.requires.inside c.loop-number.number-index 0 c.loop-number-test.true in
    let a = c.requires.as_many in
    omega arith

pub loop-number-preserved : goal.loop-number-preserved
loop-number-preserved c =
    let sums =
    sum_by_more (λ number. length (row_at c.args.names.now number) + length (row_of c.args.graph.now number) + 1)
    c.args.numbers.now
    c.loop-number.number-index 0 c.loop-number-test.true in
    let row = ap length c.row.ensures in
    let names = length-map c.row.result.now as_named in
    let inv = c.loop-number.invariant in
    omega arith
