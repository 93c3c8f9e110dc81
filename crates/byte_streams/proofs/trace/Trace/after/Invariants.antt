use Rattle.byte_streams.proofs.trace.Trace.after.Given as goal
use Rattle.byte_streams.specs.Devices.{after}

abbrev pub ghost-picked : goal.ghost-picked
ghost-picked a = after a._first.now.value a._second.now.answer.now a._second.now.buffer.now
