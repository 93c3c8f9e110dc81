use Rattle.std.proofs.Common.{◌≡◌, map, take}
use Rattle.apollo_tree.proofs.compact.write_all.Given as goal
use Rattle.apollo_tree.specs.Compact.{compact_record}
use Rattle.apollo_tree.specs.Filled.{filled}

-- the records that were passed are written
abbrev pub invariant-loop-index : goal.invariant-loop-index
invariant-loop-index g l =
    l.rows ≡ filled l.initial.rows (take l.index (map compact_record (map g.R.Packed.plain l.records)))
