use Rattle.std.proofs.Common.{◌∙◌, ap, length}
use Rattle.apollo_parser.specs.Filled.{filled}
use Rattle.c_validation.proofs.Outcomes.{no-validation, of-report}
use Rattle.c_validation.proofs.violation_rows.validate_into.Goals as goal
use Rattle.c_validation.specs.Outcomes.{no_memory}

pub returns-in-Err : goal.returns-in-Err
returns-in-Err c =
    no-validation _ _ _ _ _ c.in-Err.status _ c.refused.result c.refused.ensures c.in-Err.ensures.refusal

pub returns-in_default : goal.returns-in_default
returns-in_default c = no-validation _ _ _ _ _ _ _ c.refused-in_default.result c.refused-in_default.ensures no_memory

pub returns : goal.returns
returns c =
    of-report _ _ _ _ _ c.in-Ok.tree c.in-Ok-find_violations.report
    (record { violations = c.args.violations.now; messages = c.args.messages.now })
    c.write.new.buffer c.write-2.new.buffer (length c.as_slice-rows.result.now) (length c.as_slice-said.result.now)
    c.counts_of.result
    c.in-Ok.ensures.document
    (rw c.root.ensures.place at c.in-Ok-find_violations.ensures)
    (c.write.ensures ∙ ap (λ xs. filled c.args.violations.now xs) c.as_slice-rows.ensures.value)
    (c.write-2.ensures ∙ ap (λ xs. filled c.args.messages.now xs) c.as_slice-said.ensures.value)
    (ap (λ xs. length xs) c.as_slice-rows.ensures.value) (ap (λ xs. length xs) c.as_slice-said.ensures.value)
    c.counts_of.ensures
