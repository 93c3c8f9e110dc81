use Rattle.std.proofs.Common.{◌≡◌, ◌++◌, drop}
use Rattle.std.specs.List.{filter_map}
use Rattle.command_lines.proofs.options.Plan.texts.Given as goal
use Rattle.command_lines.specs.Options.{text_of}
use Rattle.command_lines.specs.Reading.{as_settings}
use Rattle.command_lines.specs.Words.{texts}

abbrev pub invariant-loop-set : goal.invariant-loop-set
invariant-loop-set g l =
    texts l.found.items ++ filter_map (text_of l.key) (as_settings (drop l.set-index l.set-items))
    ≡ filter_map (text_of l.key) (as_settings l.set-items)
