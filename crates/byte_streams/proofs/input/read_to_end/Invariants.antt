use Rattle.std.proofs.Common.{◌≡◌, ◌-◌, ◌^◌, vec_len}
use Rattle.byte_streams.proofs.input.read_to_end.Given as goal
use Rattle.byte_streams.specs.Devices.{moved}

abbrev pub invariant-loop-bytes : goal.invariant-loop-bytes
invariant-loop-bytes g l = g.R.Source.account l.reader ≡ moved (g.R.Source.account l.initial.reader) l.bytes.items

abbrev pub decreases-loop-bytes : goal.decreases-loop-bytes
decreases-loop-bytes g l = 2 ^ 63 - vec_len l.bytes
