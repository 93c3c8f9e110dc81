use Rattle.std.proofs.Common.{◌∙◌, ap}
use Rattle.std.specs.Prelude.{decimal}
use Rattle.gqlcst_run.proofs.Forms.{head_put}
use Rattle.gqlcst_run.proofs.report.tokens.put_head.Goals as goal

pub returns : goal.returns
returns g c = head_put _ _ _ _ _ _ _ _ _ c.as_bytes.ensures.value (c.digits.ensures ∙ ap decimal c.move_to.ensures)
    (c.digits-2.ensures ∙ ap decimal c.move_to-2.ensures) c.put_four.ensures c.put.ensures
