use Rattle.std.proofs.Common.{ap, ◌∙◌, map}
use Rattle.apollo_tree.proofs.Widening.{packed-insert}
use Rattle.apollo_tree.proofs.table.Form.insert.Goals as goal
use Rattle.apollo_tree.specs.Forms.{form_records}
use Rattle.apollo_tree.specs.Widened.{of_small, widened}

pub returns-in_ok-insert_at-in-Small-clause-rows : goal.returns-in_ok-insert_at-in-Small-clause-rows
returns-in_ok-insert_at-in-Small-clause-rows g c =
    ap (map of_small) c.in_ok-insert_at-in-Small.ensures
    ∙ packed-insert of_small (form_records c.args.self.now) c.in-Small.records.items c.args.index
    (ap form_records c.in-Small.is) c.new.result c.args.row c.new.ensures

pub returns-in_ok-insert_at-in-Narrow-clause-rows : goal.returns-in_ok-insert_at-in-Narrow-clause-rows
returns-in_ok-insert_at-in-Narrow-clause-rows g c =
    ap (map widened) c.in_ok-insert_at-in-Narrow.ensures
    ∙ packed-insert widened (form_records c.args.self.now) c.in-Narrow.records.items c.args.index
    (ap form_records c.in-Narrow.is) c.new-in-Narrow.result c.args.row c.new-in-Narrow.ensures
