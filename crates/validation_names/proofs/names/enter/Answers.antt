use Rattle.std.proofs.Common.{rules, ◌≡◌, None}
use Rattle.std.proofs.lemmas.Map.Text.{btree_map_updates_str}
use Rattle.validation_names.proofs.names.enter.Goals as goal
use Rattle.validation_names.specs.Names.{entry_of}

pub returns-clause-entered : goal.returns-clause-entered
returns-clause-entered g c = λ q.
    let none : entry_of c.args.entries.now c.args.name.now ≡ None = search rules in
    rw none (btree_map_updates_str c.args.name.now c.args.entries.now c.insert.new.self _
    c.in_ok-insert.ensures.updates q)
