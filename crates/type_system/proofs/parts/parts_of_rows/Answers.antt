use Rattle.std.proofs.Common.{◌≡◌, ◌<◌, ◌∙◌, Some, ap, arith, length, map, sym}
use Rattle.std.proofs.lemmas.Option.{slice_get-get_or, slice_get-map}
use Rattle.std.specs.Prelude.{option_map, slice_get}
use Rattle.validation_names.specs.Names.{entry_of}
use Rattle.validation_names.specs.Sites.{as_located}
use Rattle.type_system.proofs.RowLemmas.{parts_more, read_row}
use Rattle.type_system.proofs.parts.parts_of_rows.Goals as goal

pub loop-number-preserved : goal.loop-number-preserved
loop-number-preserved c =
    let ds = c.args.definitions.now in
    let fields = c.args.fields.now in
    let values = c.args.values.now in
    let inputs = c.args.inputs.now in
    let n = c.loop-number.number in
    let site = c.index-definitions-number.result in
    let below : n < length ds = c.loop-number-test.true in
    let here : slice_get (map as_located ds) n ≡ Some (as_located site) =
    slice_get-map as_located ds n ∙ ap (option_map as_located) (slice_get-get_or ds n site below)
    ∙ ap (λ s. Some (as_located s)) (sym c.index-definitions-number.is) in
    let long = c.requires.fields in
    let long_values = c.requires.values in
    let long_inputs = c.requires.inputs in
    let own_fields = read_row fields n c.index-fields-number.result
    (omega (arith, long)) c.index-fields-number.is in
    let own_values = read_row values n c.index-values-number.result
    (omega (arith, long_values)) c.index-values-number.is in
    let own_inputs = read_row inputs n c.index-inputs-number.result
    (omega (arith, long_inputs)) c.index-inputs-number.is in
    rw c.in_ok-push.ensures.items
    (parts_more (entry_of c.args.types.now) (map as_located ds) fields values inputs n c.loop-number.parts.items
    c.in_ok-own.own (as_located site) here c.loop-number.invariant
    (rw (
      c.as_slice.ensures.value,
      c.as_slice-in-loop-number.ensures.value,
      c.as_slice-in-loop-number-2.ensures.value,
      own_fields,
      own_values,
      own_inputs,
    ) at c.in_ok-own.ensures))
