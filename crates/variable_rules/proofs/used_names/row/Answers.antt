use Rattle.std.proofs.Common.{map, sym, ap, ◌∙◌}
use Rattle.validation_names.specs.Mentions.{as_named}
use Rattle.variable_rules.proofs.RowLemmas.{row_read}
use Rattle.variable_rules.proofs.used_names.row.Goals as goal

pub returns : goal.returns
returns c =
    ap (map as_named) c.deref.ensures.value
    ∙ sym (row_read c.args.names.now c.args.number c.index-names-number.result c.requires c.index-names-number.is)
