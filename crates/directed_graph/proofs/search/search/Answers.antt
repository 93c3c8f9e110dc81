use Rattle.std.proofs.Common.{arith, length, ◌≡◌, ◌<◌, rules}
use Rattle.directed_graph.proofs.SearchLemmas.{found_ends, found_inside, search_begins, search_ends, next_inside}
use Rattle.directed_graph.proofs.SearchLemmas.{row_within, goes_on}
use Rattle.directed_graph.proofs.search.search.Goals as goal

pub loop-next-init : goal.loop-next-init
loop-next-init c =
    search_begins _ _ _ _ _ c.requires.starts c.requires.as_many c.requires.unmarked _ c.new-found.ensures.items
    c.in_ok-mark_all.ensures

pub row-requires : goal.row-requires
row-requires c =
    let below : c.loop-next.next < length c.loop-next.found.items = search rules in
    next_inside _ _ _ _ _ _ c.loop-next.invariant below c.index-vertex.ensures

pub mark_all-requires-in-loop-next : goal.mark_all-requires-in-loop-next
mark_all-requires-in-loop-next c =
    let below : c.loop-next.next < length c.loop-next.found.items = search rules in
    row_within _ _ _ _ c.requires.graph c.loop-next.invariant.as_many c.row.ensures

pub loop-next-preserved : goal.loop-next-preserved
loop-next-preserved c =
    let below : c.loop-next.next < length c.loop-next.found.items = search rules in
    goes_on _ _ _ _ _ _ _ _ _ c.requires.graph below c.index-vertex.ensures c.row.ensures c.loop-next.invariant
    c.in_ok-mark_all-2.ensures

pub returns-clause-marked : goal.returns-clause-marked
returns-clause-marked c =
    let within = c.loop-next.invariant.within in
    let end : c.loop-next.next ≡ length c.loop-next.found.items = grind arith in
    search_ends _ _ _ _ _ end c.loop-next.invariant

pub returns-clause-found : goal.returns-clause-found
returns-clause-found c =
    let within = c.loop-next.invariant.within in
    let end : c.loop-next.next ≡ length c.loop-next.found.items = grind arith in
    found_ends _ _ _ _ _ end c.loop-next.invariant

pub returns-clause-inside : goal.returns-clause-inside
returns-clause-inside c = found_inside _ _ _ _ _ c.loop-next.invariant

pub returns-clause-distinct : goal.returns-clause-distinct
returns-clause-distinct c = c.loop-next.invariant.distinct
