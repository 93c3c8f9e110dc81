use Rattle.std.proofs.Common.{refl, arith}
use Rattle.rpc_serving.proofs.FrameLemmas.{head-at, never-stated, no-head-yet, head-too-long, no-few}
use Rattle.rpc_serving.proofs.frames.head.Goals as goal

pub returns-in-Some-clause-found : goal.returns-in-Some-clause-found
returns-in-Some-clause-found c =
    head-at c.args.bytes.now c.min.result c.parse_headers.new.headers c.in-Ok-Complete.end c.in-Ok-Complete.count
    c.in-Ok-Complete.count c.in-Some.length
    (omega arith) (omega (arith, c.min.ensures)) (omega (arith, c.parse_headers.auto.headers))
    (rw c.in-Ok-Complete.field-0-is at c.in-Ok-Complete.ensures.within)
    (rw c.in-Ok-Complete.field-0-is at c.in-Ok-Complete.ensures.complete) c.in-Some.ensures

pub returns-in-None-clause-never : goal.returns-in-None-clause-never
returns-in-None-clause-never c =
    never-stated c.args.bytes.now c.min.result c.parse_headers.new.headers c.in-Ok-Complete.end c.in-Ok-Complete.count
    c.in-Ok-Complete.count (omega arith)
    (rw c.in-Ok-Complete.field-0-is at c.in-Ok-Complete.ensures.complete) c.in-None.ensures

pub returns-then-bytes-lt-HEAD_LIMIT-clause-none : goal.returns-then-bytes-lt-HEAD_LIMIT-clause-none
returns-then-bytes-lt-HEAD_LIMIT-clause-none c =
    no-head-yet c.args.bytes.now c.min.result (omega (arith, c.min.ensures))
    (rw c.in-Ok-Partial.field-0-is at c.in-Ok-Partial.ensures.partial)

pub returns-else-bytes-lt-HEAD_LIMIT-clause-never : goal.returns-else-bytes-lt-HEAD_LIMIT-clause-never
returns-else-bytes-lt-HEAD_LIMIT-clause-never c =
    head-too-long c.args.bytes.now c.min.result (omega (arith, c.min.ensures)) c.if-bytes-lt-HEAD_LIMIT.false
    (rw c.in-Ok-Partial.field-0-is at c.in-Ok-Partial.ensures.partial)

pub returns-in-Err-clause-never : goal.returns-in-Err-clause-never
returns-in-Err-clause-never c = no-few c.args.bytes.now c.min.result 16 refl c.in-Err.ensures.no_room
