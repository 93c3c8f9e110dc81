use Rattle.std.proofs.Common.{◌≡◌, find, reverse, take}
use Rattle.std.specs.Prelude.{option_map}
use Rattle.editor_validation.proofs.braces.last_that_explains.Given as goal
use Rattle.editor_validation.specs.Braces.{explains}
use Rattle.editor_validation.specs.declared.braces.OpenBrace.{OpenBrace}

abbrev pub invariant-loop-brace : goal.invariant-loop-brace
invariant-loop-brace l =
    l.found ≡ option_map (λ (brace : OpenBrace). brace.start)
    (find (explains l.error) (reverse (take l.brace-index l.braces)))
