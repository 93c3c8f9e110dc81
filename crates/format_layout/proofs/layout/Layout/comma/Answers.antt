use Rattle.std.proofs.Common.{◌≡◌, true, sym, ◌∙◌, arith}
use Rattle.std.proofs.lemmas.Bool.Decides.{nat_tests}
use Rattle.format_layout.proofs.Written.{comma-keeps}
use Rattle.format_layout.proofs.layout.Layout.comma.Goals as goal

pub returns-clause-keeps : goal.returns-clause-keeps
returns-clause-keeps g c =
    let may : c.may_touch.result ≡ true = grind (arith, nat_tests) in
    comma-keeps _ _ _ _ _ c.in_ok-push_str.ensures.bytes c.add_one.ensures (sym c.may_touch.ensures ∙ may)
