use Rattle.std.proofs.Common.{◌≡◌, drop}
use Rattle.std.specs.List.{find}
use Rattle.std.specs.Prelude.{bytes_eq}
use Rattle.command_lines.proofs.options.Plan.setting.Given as goal
use Rattle.command_lines.specs.Reading.{as_settings}

abbrev pub invariant-loop-set : goal.invariant-loop-set
invariant-loop-set g l =
    find (λ set. bytes_eq set.0 l.key) (as_settings l.set-items)
    ≡ find (λ set. bytes_eq set.0 l.key) (as_settings (drop l.set-index l.set-items))
