use Rattle.apollo_parser.specs.Derivation.{document}
use Rattle.tests_parser.proofs.Composed.{same-text, reads-back, one-tree}
use Rattle.tests_parser.proofs.promises.parsed.Goals as goal

pub returns-clause-only_derivation : goal.returns-clause-only_derivation
returns-clause-only_derivation g c =
    let p = same-text c.new.ensures.source c.new.ensures.recursion_limit c.in_ok-tree.ensures.promise in
    λ none. (p.only_derivation none).0

pub returns-clause-not_late : goal.returns-clause-not_late
returns-clause-not_late g c =
    (same-text c.new.ensures.source c.new.ensures.recursion_limit c.in_ok-tree.ensures.promise).not_late

pub returns-clause-recovers : goal.returns-clause-recovers
returns-clause-recovers g c =
    (same-text c.new.ensures.source c.new.ensures.recursion_limit c.in_ok-tree.ensures.promise).recovers

pub returns-clause-reads_back : goal.returns-clause-reads_back
returns-clause-reads_back g c =
    reads-back (same-text c.new.ensures.source c.new.ensures.recursion_limit c.in_ok-tree.ensures.promise)
    c.reading_back.ensures.accessors c.reading_back.ensures.nodes

pub returns-clause-one_tree : goal.returns-clause-one_tree
returns-clause-one_tree g c =
    one-tree (same-text c.new.ensures.source c.new.ensures.recursion_limit c.in_ok-tree.ensures.promise)
    (λ text u v. c.one_derivation.ensures.texts text u v document)
