use Rattle.std.proofs.Common.{◌≡◌, drop, map}
use Rattle.httparse.specs.Spans.{header_bytes}
use Rattle.rpc_serving.proofs.frames.length_in.Given as goal
use Rattle.rpc_serving.specs.Frames.{length_in}

abbrev pub invariant-loop-header : goal.invariant-loop-header
invariant-loop-header l =
    length_in (map (header_bytes l.bytes) l.headers)
    ≡ length_in (map (header_bytes l.bytes) (drop l.header-index l.headers))
