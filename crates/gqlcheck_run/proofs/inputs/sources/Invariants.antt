use Rattle.std.proofs.Common.{◌≡◌, map, take}
use Rattle.document_checks.specs.Checking.{texts_of}
use Rattle.gqlcheck_run.proofs.inputs.sources.Given as goal
use Rattle.gqlcheck_run.specs.Inputs.{as_input, text_of}

abbrev pub invariant-loop-input : goal.invariant-loop-input
invariant-loop-input g l = texts_of l.sources.items ≡ map text_of (map as_input (take l.input-index l.inputs))
