use Rattle.std.proofs.Common.{length, map}
use Rattle.std.proofs.lemmas.List.{length-map}
use Rattle.validation_names.specs.Names.{entry_of}
use Rattle.validation_names.specs.Sites.{as_located}
use Rattle.type_system.proofs.RowLemmas.{parts_by_rows}
use Rattle.type_system.proofs.parts.parts.Goals as goal

pub returns : goal.returns
returns c =
    let definitions = c.args.definitions.now in
    parts_by_rows (entry_of c.args.types.now) (map as_located definitions) (length definitions)
    c.in_ok-fields.fields.items c.in_ok-values.values.items c.in_ok-inputs.inputs.items c.in_ok-parts.parts.items
    (length-map definitions as_located) c.in_ok-fields.ensures c.in_ok-values.ensures c.in_ok-inputs.ensures
    (rw (c.deref.ensures.value, c.deref-2.ensures.value, c.deref-3.ensures.value) at c.in_ok-parts.ensures)
