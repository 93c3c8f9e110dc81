use Rattle.std.proofs.Common.{◌-◌, ◌+◌, arith, rules, leb}
use Rattle.std.proofs.lemmas.List.Sorted.{IsPartitionPoint-from_clause, IsPartitionedBy-leb}
use Rattle.line_index.proofs.LineLemmas.{some-up-to, at-up-to, past-up-to}
use Rattle.line_index.proofs.last_up_to.Goals as goal

pub overflow_sub-result : goal.overflow_sub-result
overflow_sub-result c =
    let p = IsPartitionPoint-from_clause (λ y. leb y c.args.offset) c.args.offsets.now c.partition_point.result
    c.partition_point.ensures.partitioned
    (IsPartitionedBy-leb (λ y. y) c.args.offsets.now c.args.offset c.requires.ordered) (λ a r f k. search rules) in
    some-up-to c.args.offsets.now c.args.offset c.partition_point.result c.requires.some c.requires.first p

pub returns-clause-up_to : goal.returns-clause-up_to
returns-clause-up_to c =
    let p = IsPartitionPoint-from_clause (λ y. leb y c.args.offset) c.args.offsets.now c.partition_point.result
    c.partition_point.ensures.partitioned
    (IsPartitionedBy-leb (λ y. y) c.args.offsets.now c.args.offset c.requires.ordered) (λ a r f k. search rules) in
    at-up-to c.args.offsets.now c.args.offset c.partition_point.result
    (some-up-to c.args.offsets.now c.args.offset c.partition_point.result c.requires.some
    c.requires.first p) p

pub returns-clause-last : goal.returns-clause-last
returns-clause-last c =
    let p = IsPartitionPoint-from_clause (λ y. leb y c.args.offset) c.args.offsets.now c.partition_point.result
    c.partition_point.ensures.partitioned
    (IsPartitionedBy-leb (λ y. y) c.args.offsets.now c.args.offset c.requires.ordered) (λ a r f k. search rules) in
    past-up-to c.args.offsets.now c.args.offset c.partition_point.result p
    (c.partition_point.result - 1 + 1) (omega arith)
