use Rattle.std.proofs.Common.{◌≡◌, None, sym, ◌∙◌}
use Rattle.std.proofs.lemmas.Map.Text.{btree_map_updates_str}
use Rattle.validation_names.specs.Names.{Enters, entry_of}
use Rattle.validation_names.specs.Sites.{as_located}
use Rattle.type_system.proofs.TableLemmas.{enters, none_there, under_name}
use Rattle.type_system.proofs.tables.enter_field.Goals as goal
use Rattle.type_system.specs.Schemas.{as_with_arguments, entered}

pub returns : goal.returns
returns c =
    let old = c.args.entries.now in
    let new = c.insert.new.self in
    let name = c.in-Some.name.now in
    let field = c.in_ok-field.field in
    let none : entry_of old name ≡ None =
    none_there (entry_of old name) (sym c.is_entered.ensures ∙ c.if-is_entered.false) in
    let is : Enters old new name field =
    λ q. rw none (btree_map_updates_str name old new _ c.in_ok-insert.ensures.updates q) in
    rw (← c.in_ok-field.ensures)
    (under_name (as_located c.args.site.now) name (entered old) (entered new) (as_with_arguments field)
    (sym c.in-Some.ensures) (enters as_with_arguments old new name field is))
