use Rattle.std.proofs.Common.{◌∙◌, map, sym, arith}
use Rattle.validation_names.specs.Definitions.{as_defined, fragment_names}
use Rattle.cost_limits.proofs.Firsts.{name_at, count_names, no_name, not_entered, is_second, is_first, if_none}
use Rattle.cost_limits.proofs.measures.earlier.Goals as goal

pub returns-in_err-name-clause-none : goal.returns-in_err-name-clause-none
returns-in_err-name-clause-none g c =
    let vs = c.args.definitions.now in
    let k = c.args.number in
    if_none c.from_residual.result _
    (no_name c.args.fragments.now (fragment_names (map as_defined vs)) c.requires.numbers k
    (omega (arith, c.requires.inside, count_names vs))
    (name_at vs k c.index-definitions-number.result c.requires.inside c.index-definitions-number.is
    ∙ sym c.in_err-name.ensures))

pub returns-in_err-first-clause-none : goal.returns-in_err-first-clause-none
returns-in_err-first-clause-none g c =
    let vs = c.args.definitions.now in
    let k = c.args.number in
    if_none c.from_residual-in_err-first.result _
    (not_entered c.args.fragments.now (fragment_names (map as_defined vs)) c.requires.numbers k
    (omega (arith, c.requires.inside, count_names vs)) _ c.in_ok-name.name.now
    (name_at vs k c.index-definitions-number.result c.requires.inside c.index-definitions-number.is)
    (sym c.in_ok-name.ensures) (sym c.in_err-first.ensures.value))

pub returns-then-first-number-clause-some : goal.returns-then-first-number-clause-some
returns-then-first-number-clause-some g c =
    let vs = c.args.definitions.now in
    let k = c.args.number in
    is_second c.args.fragments.now (fragment_names (map as_defined vs)) c.requires.numbers k
    (omega (arith, c.requires.inside, count_names vs)) _ c.in_ok-name.name.now c.in_ok-first.field-0.now
    (name_at vs k c.index-definitions-number.result c.requires.inside c.index-definitions-number.is)
    (sym c.in_ok-name.ensures) (sym c.in_ok-first.ensures.value) c.if-first-number.true

pub returns-else-first-number-clause-none : goal.returns-else-first-number-clause-none
returns-else-first-number-clause-none g c =
    let vs = c.args.definitions.now in
    let k = c.args.number in
    is_first c.args.fragments.now (fragment_names (map as_defined vs)) c.requires.numbers k
    (omega (arith, c.requires.inside, count_names vs)) _ c.in_ok-name.name.now c.in_ok-first.field-0.now
    (name_at vs k c.index-definitions-number.result c.requires.inside c.index-definitions-number.is)
    (sym c.in_ok-name.ensures) (sym c.in_ok-first.ensures.value) (λ h. omega (arith, h, c.if-first-number.false))
