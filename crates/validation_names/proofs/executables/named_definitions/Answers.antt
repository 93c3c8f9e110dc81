use Rattle.std.proofs.Common.{ap, append-nil, ◌++◌, ◌∷◌, []}
use Rattle.std.proofs.lemmas.List.{map-append}
use Rattle.validation_names.proofs.Lists.{filter_map_more}
use Rattle.validation_names.proofs.executables.named_definitions.Goals as goal
use Rattle.validation_names.proofs.executables.named_definitions.Goals.{in-Some+in_ok-push, in_default}
use Rattle.validation_names.specs.Definitions.{as_defined, named}
use Rattle.validation_names.specs.Mentions.{as_named}

pub loop-definition-preserved : goal.loop-definition-preserved
loop-definition-preserved g c =
    let more =
    filter_map_more (named c.args.kind) as_defined c.args.definitions.now c.loop-definition.definition-index
    c.definition-item.result
    c.loop-definition-test.true c.definition-item.is in
    elim c.match-named.branch [
      | in-Some+in_ok-push w ↦
          rw (w.found-is, w.in_ok-push.ensures.items, more, ← w.in-Some.ensures, map-append)
          (ap (λ xs. xs ++ as_named w.in-Some.mention ∷ []) c.loop-definition.invariant)
      | in_default w ↦ rw (w.found-is, more, ← w.in_default.ensures, append-nil) c.loop-definition.invariant
    ]
