use Rattle.std.proofs.Common.{[], map, ap}
use Rattle.validation_names.specs.Mentions.{as_named}
use Rattle.variable_rules.proofs.KnownLemmas.{no_firsts}
use Rattle.variable_rules.proofs.used_names.first_of_each_name.Goals as goal

pub returns : goal.returns
returns c =
    let none = no_firsts c.new-known.result _ c.new-known.ensures.empty
    (ap (map as_named) c.new-firsts.ensures.items) in
    (c.in_ok-enter_firsts.ensures [] none).are
