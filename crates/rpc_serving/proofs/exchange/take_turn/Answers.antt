use Rattle.std.proofs.Common.{◌≡◌, ◌<◌, ℕ, List, None, length, sym, ap, ◌∙◌, subst, arith}
use Rattle.rpc_messages.specs.Messages.{AsksForEnd}
use Rattle.rpc_messages.specs.Replies.{EndsOnlyIf}
use Rattle.rpc_messages.specs.Steps.{Takes}
use Rattle.rpc_serving.proofs.FrameLemmas.{shorter}
use Rattle.rpc_serving.proofs.Turns.{IsReplyTo, LeadsTo, begun, goes_on, finished, fewer, never_now, skipped, some_left}
use Rattle.rpc_serving.proofs.Turns.{waiting}
use Rattle.rpc_serving.proofs.exchange.take_turn.Goals as goal
use Rattle.rpc_serving.specs.Exchange.{Exchange}
use Rattle.rpc_serving.specs.Frames.{BeginsWithFrame, HasNoFrame, IsSkipped, NeverHasFrame}

pub loop-body-init : goal.loop-body-init
loop-body-init g c = subst
    (λ (said : List ℕ). LeadsTo (Takes g.S.Service.steps) c.args.service.now c.args.frames.now said
    c.args.service.now c.args.frames.now)
    (sym c.new-said.ensures.items) (begun (Takes g.S.Service.steps) c.args.service.now c.args.frames.now)

pub returns-in-Some : goal.returns-in-Some
returns-in-Some g c =
    let begins : BeginsWithFrame c.loop-body.frames c.in-Ok-Some.body.items c.next_body.new.self =
    rw c.in-Ok-Some.field-0-is at c.in-Ok-Some.ensures.found in
    let replies : IsReplyTo c.in-Ok-Some.body.items c.in_ok-reply-in-Ok-Some.reply =
    subst (λ (body : List ℕ). IsReplyTo body c.in_ok-reply-in-Ok-Some.reply) c.as_slice.ensures.value
    c.in_ok-reply-in-Ok-Some.ensures.replies in
    let ends : EndsOnlyIf (AsksForEnd c.in-Ok-Some.body.items) c.in_ok-reply-in-Ok-Some.reply =
    subst (λ (body : List ℕ). EndsOnlyIf (AsksForEnd body) c.in_ok-reply-in-Ok-Some.reply) c.as_slice.ensures.value
    c.in_ok-reply-in-Ok-Some.ensures.ends in
    let taken : Takes g.S.Service.steps c.in-Ok-Some.body.items c.loop-body.service c.in_ok-reply-in-Ok-Some.reply
    c.handle.new.service =
    subst (λ (body : List ℕ). Takes g.S.Service.steps body c.loop-body.service c.in_ok-reply-in-Ok-Some.reply
    c.handle.new.service) c.as_slice.ensures.value
    c.in_ok-reply-in-Ok-Some.ensures.takes in
    finished (Takes g.S.Service.steps) _ _ _ _ _ _ _ _ _ _ _ c.loop-body.invariant begins replies ends
    (sym c.in_ok-status-in-Ok-Some.ensures.status ∙ c.in-Some.is) taken c.in_ok-status-in-Ok-Some.ensures.said

pub loop-body-smaller-in-Ok-Some : goal.loop-body-smaller-in-Ok-Some
loop-body-smaller-in-Ok-Some g c =
    let begins : BeginsWithFrame c.loop-body.frames c.in-Ok-Some.body.items c.next_body.new.self =
    rw c.in-Ok-Some.field-0-is at c.in-Ok-Some.ensures.found in
    shorter _ _ _ begins

pub loop-body-preserved-in-Ok-Some : goal.loop-body-preserved-in-Ok-Some
loop-body-preserved-in-Ok-Some g c =
    let begins : BeginsWithFrame c.loop-body.frames c.in-Ok-Some.body.items c.next_body.new.self =
    rw c.in-Ok-Some.field-0-is at c.in-Ok-Some.ensures.found in
    let replies : IsReplyTo c.in-Ok-Some.body.items c.in_ok-reply-in-Ok-Some.reply =
    subst (λ (body : List ℕ). IsReplyTo body c.in_ok-reply-in-Ok-Some.reply) c.as_slice.ensures.value
    c.in_ok-reply-in-Ok-Some.ensures.replies in
    let taken : Takes g.S.Service.steps c.in-Ok-Some.body.items c.loop-body.service c.in_ok-reply-in-Ok-Some.reply
    c.handle.new.service =
    subst (λ (body : List ℕ). Takes g.S.Service.steps body c.loop-body.service c.in_ok-reply-in-Ok-Some.reply
    c.handle.new.service) c.as_slice.ensures.value
    c.in_ok-reply-in-Ok-Some.ensures.takes in
    goes_on (Takes g.S.Service.steps) _ _ _ _ _ _ _ _ _ _ c.loop-body.invariant begins replies
    (sym c.in_ok-status-in-Ok-Some.ensures.status ∙ c.in_default.is) taken c.in_ok-status-in-Ok-Some.ensures.said

pub returns-in-Ok-None : goal.returns-in-Ok-None
returns-in-Ok-None g c =
    let none : HasNoFrame c.loop-body.frames = rw c.in-Ok-None.field-0-is at c.in-Ok-None.ensures.none in
    let kept : c.next_body.new.self ≡ c.loop-body.frames = rw c.in-Ok-None.field-0-is at c.in-Ok-None.ensures.kept in
    subst (λ (left : List ℕ). Exchange (Takes g.S.Service.steps) c.args.service.now c.args.frames.now
    c.loop-body.said.items left None c.loop-body.service)
    (sym kept) (waiting (Takes g.S.Service.steps) _ _ _ _ _ c.loop-body.invariant none)

pub returns-then-is_empty : goal.returns-then-is_empty
returns-then-is_empty g c =
    let never : NeverHasFrame c.loop-body.frames =
    c.in-Err.ensures.never (c.was_refused.ensures c.if-was_refused.false) in
    subst (λ (left : List ℕ). Exchange (Takes g.S.Service.steps) c.args.service.now c.args.frames.now
    c.loop-body.said.items left None c.loop-body.service)
    (sym c.in-Err.ensures.err) (waiting (Takes g.S.Service.steps) _ _ _ _ _ c.loop-body.invariant (never_now _ never))

pub loop-body-smaller : goal.loop-body-smaller
loop-body-smaller g c =
    let some : 0 < length c.next_body.new.self = some_left _ _ c.is_empty.ensures c.if-is_empty.false in
    omega (arith, fewer _ _ some c.in_ok-skip-in-Err.ensures, ap length c.in-Err.ensures.err)

pub loop-body-preserved : goal.loop-body-preserved
loop-body-preserved g c =
    let never : NeverHasFrame c.loop-body.frames =
    c.in-Err.ensures.never (c.was_refused.ensures c.if-was_refused.false) in
    skipped (Takes g.S.Service.steps) _ _ _ _ _ _ c.loop-body.invariant never
    (subst (λ (now : List ℕ). IsSkipped now c.skip.new.self) c.in-Err.ensures.err c.in_ok-skip-in-Err.ensures)
