use Rattle.std.proofs.Common.{ap, append-nil, ◌++◌, ◌∷◌, []}
use Rattle.validation_names.proofs.Lists.{filter_map_more}
use Rattle.validation_names.specs.Mentions.{as_named, Named}
use Rattle.validation_names.specs.Names.{entry_of}
use Rattle.validation_rules.proofs.definition_parts.targets.Goals as goal
use Rattle.validation_rules.proofs.definition_parts.targets.Goals.{in-Some+in_ok-push, in_default}

pub loop-spread-preserved : goal.loop-spread-preserved
loop-spread-preserved c =
    let more =
    filter_map_more (λ (s : Named). entry_of c.args.fragments.now s.name) as_named c.args.spreads.now
    c.loop-spread.spread-index c.spread-item.result
    c.loop-spread-test.true c.spread-item.is in
    elim c.match-get.branch [
      | in-Some+in_ok-push w ↦
          rw (w.row-is, w.in_ok-push.ensures.items, more, ← w.in-Some.ensures.value)
          (ap (λ xs. xs ++ w.in-Some.number.now ∷ []) c.loop-spread.invariant)
      | in_default w ↦ rw (w.row-is, more, ← w.in_default.ensures.value, append-nil) c.loop-spread.invariant
    ]
