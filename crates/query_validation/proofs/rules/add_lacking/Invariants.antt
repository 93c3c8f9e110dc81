use Rattle.std.proofs.Common.{◌≡◌, ◌++◌, map, take}
use Rattle.validation_names.specs.Sites.{as_located}
use Rattle.query_validation.proofs.rules.add_lacking.Given as goal
use Rattle.query_validation.specs.Breaches.{as_breach, lacking_breaches}

abbrev pub invariant-loop-required : goal.invariant-loop-required
invariant-loop-required l =
    map as_breach l.found.items
    ≡ map as_breach l.fn.found.items
    ++ lacking_breaches l.fn.rule (as_located l.site) (map as_located (take l.required-index l.fn.required))
