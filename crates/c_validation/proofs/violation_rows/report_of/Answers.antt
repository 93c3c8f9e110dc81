use Rattle.std.proofs.Common.{◌≡◌, ◌∙◌, ◌<◌, ap, length, arith}
use Rattle.c_validation.proofs.Reports.{next-messages, next-row}
use Rattle.c_validation.proofs.violation_rows.report_of.Goals as goal

pub loop-violation-preserved : goal.loop-violation-preserved
loop-violation-preserved c =
    let vs = c.args.violations.now in
    let i = c.loop-violation.violation-index in
    let inside : i < length vs = omega arith in
    let said : length c.as_slice-said.result.now ≡ length c.loop-violation.messages.items =
    ap length c.as_slice-said.ensures.value in
    record {
      rows_are = next-row vs i c.violation-item.result c.loop-violation.rows.items c.push.new.self.items c.row_of.result
          (length c.as_slice-said.result.now) c.as_str.result.now inside c.violation-item.is
          (said ∙ ap length c.loop-violation.invariant.messages_are)
          (c.as_str.ensures.value ∙ c.in_ok-words.ensures) c.row_of.ensures c.loop-violation.invariant.rows_are
          c.in_ok-push.ensures.items;
      messages_are = next-messages vs i c.violation-item.result c.loop-violation.messages.items
          c.extend_from_slice.new.self.items c.as_bytes.result.now inside
          c.violation-item.is (c.as_bytes.ensures.value ∙ c.in_ok-words.ensures) c.loop-violation.invariant.messages_are
          c.in_ok-extend_from_slice.ensures.items;
    }
