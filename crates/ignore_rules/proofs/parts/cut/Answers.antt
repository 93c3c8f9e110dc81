use Rattle.std.proofs.Common.{◌+◌, arith, sym, length-drop}
use Rattle.std.proofs.lemmas.List.{take_rest}
use Rattle.ignore_rules.proofs.PartLemmas.{parts_first, parts_whole}
use Rattle.ignore_rules.proofs.parts.cut.Goals as goal

pub returns-in-Some : goal.returns-in-Some
returns-in-Some c =
    let found = parts_first c.args.byte c.args.text.now c.in-Some.end (sym c.in-Some.ensures.first) in
    rw take_rest (found.1, omega (arith, length-drop (c.in-Some.end + 1) c.args.text.now, found.0))

pub returns-in-None : goal.returns-in-None
returns-in-None c = parts_whole c.args.byte c.args.text.now (sym c.in-None.ensures.first)
