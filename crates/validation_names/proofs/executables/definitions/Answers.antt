use Rattle.std.proofs.Common.{◌≡◌, ◌+◌, suc, ◌∷◌, append_assoc, arith, drop}
use Rattle.std.proofs.lemmas.List.{drop_more}
use Rattle.std.proofs.lemmas.List.Elements.{filter_map-append}
use Rattle.validation_names.proofs.executables.definitions.Goals as goal

pub loop-number-preserved : goal.loop-number-preserved
loop-number-preserved g c =
    let documents = c.args.documents.now in
    let n = c.loop-number.number in
    let document = c.index-documents-number.result in
    let more : drop n documents ≡ document ∷ drop (n + 1) documents =
    rw (← c.index-documents-number.is) at (drop_more documents n document c.loop-number-test.true) in
    let next : suc n ≡ n + 1 = omega arith in
    let before = rw (more, next) at c.loop-number.invariant in
    rw (c.in_ok-push_definitions.ensures, append_assoc, ← filter_map-append) before
