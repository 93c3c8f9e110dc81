use Rattle.std.proofs.Common.{◌∙◌, ap, sym, refl, take}
use Rattle.std.proofs.lemmas.List.{take_all}
use Rattle.std.proofs.lemmas.List.Folds.{list_all_more}
use Rattle.std.specs.List.{list_all}
use Rattle.std.specs.Prelude.{◌&&◌}
use Rattle.gqlcst_run.proofs.report.quoted.are_plain.Goals as goal
use Rattle.gqlcst_run.specs.Quoted.{is_plain}

pub loop-byte-init : goal.loop-byte-init
loop-byte-init c = refl

pub loop-byte-preserved : goal.loop-byte-preserved
loop-byte-preserved c =
    let bytes = c.args.bytes.now in
    let index = c.loop-byte.byte-index in
    ap (λ all. all && c.is_plain-all.result) c.loop-byte.invariant
    ∙ ap (λ byte. list_all is_plain (take index bytes) && byte) c.is_plain-all.ensures
    ∙ sym (list_all_more is_plain bytes index 0 c.loop-byte-test.true)

pub returns : goal.returns
returns c = c.loop-byte.invariant
    ∙ ap (list_all is_plain) (take_all c.loop-byte.byte-index c.args.bytes.now c.loop-byte-test.false)
