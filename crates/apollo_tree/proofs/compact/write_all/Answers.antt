use Rattle.std.proofs.Common.{map, arith}
use Rattle.std.proofs.lemmas.List.{length-map}
use Rattle.apollo_tree.proofs.Compacts.{next-compact, next-fits}
use Rattle.apollo_tree.proofs.Filling.{filled-as-far}
use Rattle.apollo_tree.proofs.compact.write_all.Goals as goal
use Rattle.apollo_tree.specs.Compact.{compact_record}

pub compact-requires : goal.compact-requires
compact-requires g c =
    next-fits g.R.Packed.plain c.args.records.now c.loop-index.index c.index-records-index.result
    c.index-records-index.is (omega arith) c.requires

pub loop-index-preserved : goal.loop-index-preserved
loop-index-preserved g c =
    next-compact g.R.Packed.plain c.args.records.now c.loop-index.index c.index-records-index.result
    c.index-records-index.is (omega arith)
    c.args.rows.now c.loop-index.rows c.compact.result c.loop-index.invariant c.compact.ensures (omega arith)

pub returns : goal.returns
returns g c =
    let all = map g.R.Packed.plain c.args.records.now in
    rw c.loop-index.invariant (filled-as-far c.args.rows.now (map compact_record all) c.loop-index.index
    (omega (arith, length-map c.args.records.now g.R.Packed.plain, length-map all compact_record)))
