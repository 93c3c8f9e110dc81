use Rattle.std.proofs.Common.{ℕ, Option, subst, ◌∙◌}
use Rattle.std.specs.Prelude.{IfNone}
use Rattle.rpc_serving.proofs.FrameLemmas.{if-err}
use Rattle.rpc_serving.proofs.frames.FrameBuffer.next_body.Goals as goal
use Rattle.rpc_serving.specs.Frames.{HasNoFrame, NeverHasFrame}

pub returns-in_err-range-clause-never : goal.returns-in_err-range-clause-never
returns-in_err-range-clause-never c =
    if-err c.from_residual.result c.args.self.now
    (subst NeverHasFrame (c.as_slice.ensures.value ∙ c.self.view_is) c.in_err-range.ensures.never)

pub returns-in-None-clause-none : goal.returns-in-None-clause-none
returns-in-None-clause-none c =
    subst HasNoFrame (c.as_slice.ensures.value ∙ c.self.view_is)
    (subst (λ (o : Option (ℕ × ℕ)). IfNone o (HasNoFrame c.as_slice.result.now)) c.in-None.is
    c.in_ok-range.ensures.none)
