use Rattle.std.proofs.Common.{arith, ◌∙◌, ◌<◌, ap, sym, List, ℕ, length, take}
use Rattle.apollo_parser.specs.Filled.{filled}
use Rattle.c_parsing.proofs.Messages.{next-fits, next-messages, next-offset}
use Rattle.c_parsing.proofs.errors.write_messages.Goals as goal
use Rattle.c_parsing.specs.Rows.{messages}

pub overflow_add-at : goal.overflow_add-at
overflow_add-at g c =
    let here : c.loop-error.error-index < length c.args.errors.now = omega arith in
    omega (
      arith,
      c.requires,
      next-fits c.args.errors.now c.loop-error.error-index c.loop-error.at c.error-item.result
          c.as_bytes-message.result.now c.error-item.is
          (c.as_bytes-message.ensures.value ∙ c.message.ensures) c.loop-error.invariant.offset here,
    )

pub loop-error-preserved : goal.loop-error-preserved
loop-error-preserved g c =
    let here : c.loop-error.error-index < length c.args.errors.now = omega arith in
    let words = c.as_bytes-message.ensures.value ∙ c.message.ensures in
    record {
      offset = next-offset c.args.errors.now c.loop-error.error-index c.loop-error.at c.error-item.result
          c.as_bytes-message.result.now c.error-item.is words
          c.loop-error.invariant.offset here;
      written = c.append.ensures c.args.buffer.now (messages (take c.loop-error.error-index c.args.errors.now))
          (sym c.loop-error.invariant.offset) c.loop-error.invariant.written
          ∙ ap (λ (all : List ℕ). filled c.args.buffer.now all)
          (next-messages c.args.errors.now c.loop-error.error-index c.error-item.result
          c.as_bytes-message.result.now c.error-item.is words here);
    }
