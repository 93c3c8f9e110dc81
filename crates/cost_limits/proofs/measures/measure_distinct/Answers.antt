use Rattle.std.proofs.Common.{◌∙◌, map, length, ap, sym}
use Rattle.validation_names.specs.Definitions.{as_defined}
use Rattle.cost_limits.proofs.Lists.{in_range, same_length}
use Rattle.cost_limits.proofs.measures.measure_distinct.Goals as goal

pub measure-requires : goal.measure-requires
measure-requires g c =
    in_range c.args.options.now.introspection c.args.options.now.measured (λ v. v.items) c.as_slice.result.now
    (map as_defined c.args.definitions.now) c.as_slice-numbers.result.now
    (ap (map (λ v. v.items)) c.as_slice.ensures.value ∙ c.in-Ok.ensures)
    (c.as_slice-numbers.ensures.value ∙ c.in-Ok-operations.ensures.numbers)

pub paired-requires : goal.paired-requires
paired-requires g c =
    ap (λ xs. length xs) c.as_slice-in-Ok-measure.ensures.value
    ∙ same_length c.args.options.now.measured _ (map as_defined c.args.definitions.now) _ c.in-Ok-measure.figures.items
    c.in-Ok-operations.found.operations.items
    c.in-Ok-measure.ensures.figures (c.as_slice-numbers.ensures.value ∙ c.in-Ok-operations.ensures.numbers)
    c.in-Ok-operations.ensures.operations
    ∙ sym (ap (λ xs. length xs) c.as_slice-in-Ok-measure-2.ensures.value)
