use Rattle.std.proofs.Common.{ℕ, List, ◌++◌, Some, None, take, refl, inl, inr, arith, rules}
use Rattle.byte_streams.proofs.Accounts.{gave}
use Rattle.rpc_messages.specs.Steps.{Takes}
use Rattle.rpc_serving.proofs.Accounts.{at_end, broke, longer, wrote}
use Rattle.rpc_serving.proofs.Conversations.{ends_so, equally, goes_further, left_over, stops_so}
use Rattle.rpc_serving.proofs.Failures.{each_error, memory_refused, write_breaks}
use Rattle.rpc_serving.proofs.conversation.serve.Goals as goal
use Rattle.rpc_serving.specs.Exchange.{Exchange}

pub returns-in-Ok-eq0-clause-ok : goal.returns-in-Ok-eq0-clause-ok
returns-in-Ok-eq0-clause-ok g c =
    let so = c.loop.invariant in
    record {
      input = so.0;
      output = so.1;
      left = c.loop.frames;
      asked = None;
      exchange = stops_so (Takes g.S.Service.steps) c.args.service.now so.0 so.1 c.loop.service c.loop.frames so.4 so.5;
      ends = (
        refl,
        inl (at_end c.read.result c.in-Ok-eq0.field-0 c.read.new.buffer _ _ _ so.2 c.in-Ok-eq0.is
            c.in-Ok-eq0.field-0-test c.read.ensures.account),
      );
      written = so.3;
    }

pub returns-in-Some-clause-ok : goal.returns-in-Some-clause-ok
returns-in-Some-clause-ok g c =
    let so = c.loop.invariant in
    let given : List ℕ = take c.in-Ok.count c.read.new.buffer in
    let said : List ℕ = c.in_ok-turn-in-Ok.turn.said.items in
    record {
      input = so.0 ++ given;
      output = so.1 ++ said;
      left = c.take_turn.new.frames;
      asked = Some c.in-Some.status;
      exchange = ends_so (Takes g.S.Service.steps) c.args.service.now so.0 so.1 c.loop.service c.loop.frames given said
          c.take_turn.new.frames
          (Some c.in-Some.status) c.take_turn.new.service so.4
          (equally (Takes g.S.Service.steps) c.in_ok-extend-in-Ok.ensures.ok c.in-Some.is c.in_ok-turn-in-Ok.ensures);
      ends = (
        refl,
        gave c.read.result c.in-Ok.count so.0 c.read.new.buffer _ _ _ so.2 c.in-Ok.is c.in-Ok.count-test.1
            c.read.ensures.account,
      );
      written = wrote so.1 _ said _ _ _ so.3 c.in_ok-write_all-in-Ok.ensures.ok c.as_slice.ensures.value;
    }

pub returns-in-Err-clause-err : goal.returns-in-Err-clause-err
returns-in-Err-clause-err g c =
    let so = c.loop.invariant in
    record {
      input = so.0;
      output = so.1;
      left = c.loop.frames;
      exchange = stops_so (Takes g.S.Service.steps) c.args.service.now so.0 so.1 c.loop.service c.loop.frames so.4 so.5;
      read = broke c.read.result c.in-Err.field-0 c.read.new.buffer _ _ _ so.2 c.in-Err.is c.read.ensures.account;
      written = so.3;
    }

pub returns-in_err-extend-in-Ok-clause-err : goal.returns-in_err-extend-in-Ok-clause-err
returns-in_err-extend-in-Ok-clause-err g c =
    let so = c.loop.invariant in
    each_error c.from_residual.result c.from_residual.ensures.1
    (λ fault is. memory_refused
    (Takes g.S.Service.steps) c.args.service.now c.loop.service _ _ _ _ fault is so.0 so.1 c.loop.frames
    c.read.new.buffer c.in-Ok.count
    c.loop.service so.4 so.5
    (gave c.read.result c.in-Ok.count so.0 c.read.new.buffer _ _ _ so.2 c.in-Ok.is c.in-Ok.count-test.1
    c.read.ensures.account)
    (search rules) so.3)

pub returns-in_err-turn-in-Ok-clause-err : goal.returns-in_err-turn-in-Ok-clause-err
returns-in_err-turn-in-Ok-clause-err g c =
    let so = c.loop.invariant in
    each_error c.from_residual-in_err-turn-in-Ok.result c.from_residual-in_err-turn-in-Ok.ensures.1
    (λ fault is. memory_refused
    (Takes g.S.Service.steps) c.args.service.now c.take_turn.new.service _ _ _ _ fault is so.0 so.1 c.loop.frames
    c.read.new.buffer c.in-Ok.count
    c.loop.service so.4 so.5
    (gave c.read.result c.in-Ok.count so.0 c.read.new.buffer _ _ _ so.2 c.in-Ok.is c.in-Ok.count-test.1
    c.read.ensures.account)
    (search rules) so.3)

pub returns-in_err-write_all-in-Ok-clause-err : goal.returns-in_err-write_all-in-Ok-clause-err
returns-in_err-write_all-in-Ok-clause-err g c =
    let so = c.loop.invariant in
    let given : List ℕ = take c.in-Ok.count c.read.new.buffer in
    let said : List ℕ = c.in_ok-turn-in-Ok.turn.said.items in
    each_error c.from_residual-in_err-write_all-in-Ok.result c.from_residual-in_err-write_all-in-Ok.ensures.1
    (λ fault is. write_breaks (Takes g.S.Service.steps) c.args.service.now c.take_turn.new.service _ _ _ _ fault _
    (so.0 ++ given) so.1 said _ c.take_turn.new.frames
    c.in_ok-turn-in-Ok.turn.status _ is c.as_slice.ensures.value so.3 c.in_err-write_all-in-Ok.ensures.err
    (gave c.read.result c.in-Ok.count so.0 c.read.new.buffer _ _ _ so.2 c.in-Ok.is c.in-Ok.count-test.1
    c.read.ensures.account)
    (ends_so (Takes g.S.Service.steps) c.args.service.now so.0 so.1 c.loop.service c.loop.frames given said
    c.take_turn.new.frames
    c.in_ok-turn-in-Ok.turn.status
    c.take_turn.new.service so.4
    (equally (Takes g.S.Service.steps) c.in_ok-extend-in-Ok.ensures.ok refl c.in_ok-turn-in-Ok.ensures)))

pub loop-preserved : goal.loop-preserved
loop-preserved g c =
    let so = c.loop.invariant in
    let given : List ℕ = take c.in-Ok.count c.read.new.buffer in
    let said : List ℕ = c.in_ok-turn-in-Ok.turn.said.items in
    let waits : Exchange (Takes g.S.Service.steps) c.loop.service (c.loop.frames ++ given) said c.take_turn.new.frames
    None c.take_turn.new.service =
    equally (Takes g.S.Service.steps) c.in_ok-extend-in-Ok.ensures.ok c.in_default.is c.in_ok-turn-in-Ok.ensures in (
      so.0 ++ given,
      so.1 ++ said,
      gave c.read.result c.in-Ok.count so.0 c.read.new.buffer _ _ _ so.2 c.in-Ok.is c.in-Ok.count-test.1
          c.read.ensures.account,
      wrote so.1 _ said _ _ _ so.3 c.in_ok-write_all-in-Ok.ensures.ok c.as_slice.ensures.value,
      goes_further (Takes g.S.Service.steps) c.args.service.now so.0 so.1 c.loop.service c.loop.frames given said
          c.take_turn.new.service
          c.take_turn.new.frames so.4 waits,
      left_over (Takes g.S.Service.steps) waits refl,
      longer c.loop.counter c.in-Ok.count so.0 c.read.new.buffer so.6 c.in-Ok.count-test.1 c.in-Ok.ensures.within,
    )

pub returns-clause-ok : goal.returns-clause-ok
returns-clause-ok g c =
    let so = c.loop.invariant in
    record {
      input = so.0;
      output = so.1;
      left = c.loop.frames;
      asked = None;
      exchange = stops_so (Takes g.S.Service.steps) c.args.service.now so.0 so.1 c.loop.service c.loop.frames so.4 so.5;
      ends = (refl, inr (so.2, omega (arith, so.6, c.loop-test.false)));
      written = so.3;
    }
