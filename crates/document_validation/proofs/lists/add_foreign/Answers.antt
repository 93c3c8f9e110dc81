use Rattle.std.proofs.Common.{◌≡◌, ◌+◌, ◌≤◌, length, ◌∷◌, arith, drop, drop_of_length-le, map, ap}
use Rattle.std.proofs.lemmas.List.{drop_more}
use Rattle.apollo_tree.specs.References.{node_place}
use Rattle.document_validation.proofs.EachLemmas.{each_ends, each_next}
use Rattle.document_validation.proofs.lists.add_foreign.Goals as goal
use Rattle.document_validation.specs.Breaches.{foreign_in}

pub loop-number-preserved : goal.loop-number-preserved
loop-number-preserved c =
    let documents = c.args.documents.now in
    let n = c.loop-number.number in
    let document = c.index-documents-number.result in
    let more : drop n documents ≡ document ∷ drop (n + 1) documents =
    rw (← c.index-documents-number.is) at (drop_more documents n document c.loop-number-test.true) in
    each_next foreign_in n (map node_place (drop n documents)) (map node_place (drop (n + 1) documents))
    (map node_place documents) (node_place document) _
    c.loop-number.violations _ (ap (map node_place) more) c.loop-number.invariant
    (rw c.document_kind.ensures at c.in_ok-add_foreign_as.ensures)

pub returns : goal.returns
returns c =
    let end : length c.args.documents.now ≤ c.loop-number.number = omega arith in
    let none = drop_of_length-le c.args.documents.now end in
    each_ends foreign_in c.loop-number.number (map node_place (drop c.loop-number.number c.args.documents.now))
    (map node_place c.args.documents.now) _
    c.loop-number.violations (ap (map node_place) none) c.loop-number.invariant
