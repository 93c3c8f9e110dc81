use Rattle.std.proofs.Common.{◌-◌, map}
use Rattle.apollo_tree.proofs.Searches.{IsSearched}
use Rattle.apollo_tree.proofs.search.find_in.Given as goal

abbrev pub invariant-loop-index : goal.invariant-loop-index
invariant-loop-index g l =
    IsSearched (g.T.ElementTest.is_taken l.test) (map g.R.Packed.plain l.records) l.from l.index l.to

abbrev pub decreases-loop-index : goal.decreases-loop-index
decreases-loop-index g l = l.to - l.index
