use Rattle.std.proofs.Common.{◌≡◌, length, take}
use Rattle.std.specs.List.{sum_by}
use Rattle.std.specs.Prelude.{string_bytes}
use Rattle.gqlcheck_run.proofs.inputs.bytes_in.Given as goal
use Rattle.gqlcheck_run.specs.Numbers.{capped}

abbrev pub invariant-loop-input : goal.invariant-loop-input
invariant-loop-input g l =
    l.bytes ≡ capped (sum_by (λ input. length (string_bytes input.text)) (take l.input-index l.inputs))
