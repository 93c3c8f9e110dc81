use Rattle.std.proofs.Common.{map}
use Rattle.apollo_tree.specs.References.{node_place}
use Rattle.document_validation.proofs.ReadLemmas.{adds_in_order, ends_back, ends_read, variables_read}
use Rattle.document_validation.proofs.validation.add_all.Goals as goal

pub add_unused_fragments-requires-clause-closed : goal.add_unused_fragments-requires-clause-closed
add_unused_fragments-requires-clause-closed c = rw c.deref.ensures.value c.in_ok-graph.ensures.closed

pub add_cycles-requires-clause-closed : goal.add_cycles-requires-clause-closed
add_cycles-requires-clause-closed c = rw c.deref-2.ensures.value c.in_ok-graph.ensures.closed

pub add_variables-requires-clause-closed : goal.add_variables-requires-clause-closed
add_variables-requires-clause-closed c = rw c.deref-3.ensures.value c.in_ok-graph.ensures.closed

pub returns-clause-adds : goal.returns-clause-adds
returns-clause-adds c end ends =
    let definitions = c.requires.definitions in
    let parts = c.requires.parts in
    let judged = c.in_ok-ended_at.ensures.adds end
    (ends_back c.args.steps _ _ _ end c.requires.numbers c.requires.parts ends) in
    adds_in_order (map node_place c.args.documents.now) end c.args.violations.now
    c.add_foreign.new.violations
    c.add_repeated_names.new.violations
    c.add_anonymous.new.violations c.add_lists.new.violations c.add_repeated_names-2.new.violations
    c.add_unused_fragments.new.violations
    c.add_undefined_spreads.new.violations c.add_cycles.new.violations _ c.in_ok-add_foreign.ensures
    (rw definitions at c.in_ok-add_repeated_names.ensures)
    (rw parts at c.in_ok-add_anonymous.ensures) c.in_ok-add_lists.ensures
    (rw definitions at c.in_ok-add_repeated_names-2.ensures)
    (rw parts at c.in_ok-add_unused_fragments.ensures) (rw parts at c.in_ok-add_undefined_spreads.ensures)
    (rw parts at c.in_ok-add_cycles.ensures)
    (variables_read _ _ end _ _ _ c.requires.numbers parts judged)

pub returns-clause-ended : goal.returns-clause-ended
returns-clause-ended c room =
    ends_read c.args.steps _ _ _ c.in_ok-ended_at.ended_at c.requires.numbers c.requires.parts
    (c.in_ok-ended_at.ensures.ended room)
