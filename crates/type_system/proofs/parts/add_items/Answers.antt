use Rattle.std.proofs.Common.{◌<◌, ◌++◌, length, arith, sym, ◌∙◌, ap}
use Rattle.validation_names.specs.Names.{entry_of}
use Rattle.validation_names.specs.Sites.{as_located}
use Rattle.type_system.proofs.RowLemmas.{added, read_row}
use Rattle.type_system.proofs.parts.add_items.Goals as goal
use Rattle.type_system.specs.Definitions.{items}

pub returns-in_ok-push_items : goal.returns-in_ok-push_items
returns-in_ok-push_items c =
    let rows = c.args.rows.now.items in
    let number = c.in-Some.number in
    let d = as_located c.args.site.now in
    let inside : number < length rows = omega arith in
    added (entry_of c.args.types.now) c.args.block d rows number c.push_items.new.found (sym c.in-Some.ensures) inside
    (c.in_ok-push_items.ensures
    ∙ ap (λ row. row ++ items c.args.block d)
    (read_row rows number c.index_mut-row.result.now inside c.index_mut-row.ensures.value))
