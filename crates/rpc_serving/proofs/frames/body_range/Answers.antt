use Rattle.std.proofs.Common.{Option, subst, arith}
use Rattle.std.specs.Prelude.{IfSome}
use Rattle.rpc_serving.proofs.FrameLemmas.{never-large, none-yet, body-at}
use Rattle.rpc_serving.proofs.frames.body_range.Goals as goal
use Rattle.rpc_serving.specs.Frames.{IsHeadAt}
use Rattle.rpc_serving.specs.declared.frames.FrameHead.{FrameHead}

pub returns-then-head-gt-BODY_LIMIT-clause-never : goal.returns-then-head-gt-BODY_LIMIT-clause-never
returns-then-head-gt-BODY_LIMIT-clause-never c =
    let at : IsHeadAt c.args.bytes.now c.in-Some.head.end c.in-Some.head.length = subst
    (λ (o : Option FrameHead). IfSome o (λ h. IsHeadAt c.args.bytes.now h.end h.length)) c.in-Some.is
    c.in_ok-head.ensures.found in
    never-large c.args.bytes.now c.in-Some.head.end c.in-Some.head.length at (omega arith)

pub returns-then-bytes-head-clause-none : goal.returns-then-bytes-head-clause-none
returns-then-bytes-head-clause-none c =
    let at : IsHeadAt c.args.bytes.now c.in-Some.head.end c.in-Some.head.length = subst
    (λ (o : Option FrameHead). IfSome o (λ h. IsHeadAt c.args.bytes.now h.end h.length)) c.in-Some.is
    c.in_ok-head.ensures.found in
    none-yet c.args.bytes.now c.in-Some.head.end c.in-Some.head.length at (omega arith)

pub returns-clause-found : goal.returns-clause-found
returns-clause-found c =
    let at : IsHeadAt c.args.bytes.now c.in-Some.head.end c.in-Some.head.length = subst
    (λ (o : Option FrameHead). IfSome o (λ h. IsHeadAt c.args.bytes.now h.end h.length)) c.in-Some.is
    c.in_ok-head.ensures.found in
    body-at c.args.bytes.now c.in-Some.head.end c.in-Some.head.length at (omega arith) (omega arith)
