use Rattle.std.proofs.Common.{sym, arith, ◌≡◌, ◌+◌, ◌-◌}
use Rattle.c_parsing.proofs.FilledBuffers.{filled-after}
use Rattle.c_parsing.proofs.buffers.append.Goals as goal

pub returns-then-at-buffer : goal.returns-then-at-buffer
returns-then-at-buffer c = λ before written l e.
    let count : c.args.at + c.min-count.result - c.args.at ≡ c.min-count.result = omega arith in
    rw count (filled-after before written c.args.bytes.now c.args.buffer.now c.copy_from_slice.new.self
    c.args.at c.min-count.result e
    c.copy_from_slice.ensures.after (sym l) c.min-count.ensures (omega arith))
