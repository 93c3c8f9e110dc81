use Rattle.std.proofs.Common.{drop, map}
use Rattle.apollo_tree.specs.References.{node_place}
use Rattle.document_validation.proofs.EachLemmas.{AreLeft}
use Rattle.document_validation.proofs.lists.add_lists.Given as goal
use Rattle.document_validation.specs.Breaches.{repeats_in}

abbrev pub invariant-loop-number : goal.invariant-loop-number
invariant-loop-number l =
    AreLeft repeats_in l.number (map node_place (drop l.number l.documents)) (map node_place l.documents)
    l.initial.violations l.violations
