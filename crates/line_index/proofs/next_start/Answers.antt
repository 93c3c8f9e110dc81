use Rattle.std.proofs.Common.{◌+◌, arith, sym, ◌∙◌}
use Rattle.line_index.proofs.LineLemmas.{to-terminator, to-end, after-one, after-two}
use Rattle.line_index.proofs.next_start.Goals as goal

pub returns-in_err-end : goal.returns-in_err-end
returns-in_err-end c = rw c.from_residual.ensures
    (to-end c.args.bytes.now c.args.offset c.requires c.in_err-end.ensures)

pub returns-then-is_cr_lf : goal.returns-then-is_cr_lf
returns-then-is_cr_lf c =
    let t = to-terminator c.args.bytes.now c.args.offset c.in_ok-end.field-0 c.requires c.in_ok-end.ensures in
    after-two c.args.bytes.now c.args.offset (c.args.offset + c.in_ok-end.field-0) (omega arith) t.0 t.2
    (sym c.is_cr_lf.ensures ∙ c.if-is_cr_lf.true)

pub returns-else-is_cr_lf : goal.returns-else-is_cr_lf
returns-else-is_cr_lf c =
    let t = to-terminator c.args.bytes.now c.args.offset c.in_ok-end.field-0 c.requires c.in_ok-end.ensures in
    after-one c.args.bytes.now c.args.offset (c.args.offset + c.in_ok-end.field-0) (omega arith) t.0 t.2 t.1
    (sym c.is_cr_lf.ensures ∙ c.if-is_cr_lf.false)
