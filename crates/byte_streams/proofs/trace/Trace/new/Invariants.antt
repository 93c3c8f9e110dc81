use Rattle.byte_streams.proofs.trace.Trace.new.Given as goal
use Rattle.byte_streams.specs.Devices.{nothing_moved}

abbrev pub ghost-picked : goal.ghost-picked
ghost-picked a = nothing_moved
