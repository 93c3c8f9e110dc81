use Rattle.std.proofs.Common.{◌≡◌, ap, append-nil, arith, length, map, sym, ◌++◌, ◌∷◌, [], ◌∙◌, true, false}
use Rattle.std.proofs.lemmas.List.{length-map}
use Rattle.validation_names.proofs.Lists.{filter_range_more}
use Rattle.validation_rules.proofs.PartsLemmas.{at_read}
use Rattle.validation_rules.proofs.definition_parts.operations.Goals as goal
use Rattle.validation_rules.proofs.definition_parts.operations.Goals.{then-is_operation+in_ok-push, else-is_operation}
use Rattle.validation_rules.specs.Parts.{as_parts, at, is_operation}

pub loop-number-preserved : goal.loop-number-preserved
loop-number-preserved c =
    let ds = map as_parts c.args.parts.now in
    let n = c.loop-number.number in
    let read : is_operation (at ds n) ≡ c.is_operation.result =
    ap is_operation (at_read c.args.parts.now n c.index-parts-number.result c.loop-number-test.true
    c.index-parts-number.is) ∙ sym c.is_operation.ensures in
    elim c.if-is_operation.branch [
      | then-is_operation+in_ok-push w ↦
          rw (
            w.numbers-is,
            w.in_ok-push.ensures.items,
            filter_range_more (λ k. is_operation (at ds k)) n true (read ∙ w.if-is_operation.true),
          )
          (ap (λ xs. xs ++ n ∷ []) c.loop-number.invariant)
      | else-is_operation w ↦
          rw (
            w.numbers-is,
            filter_range_more (λ k. is_operation (at ds k)) n false (read ∙ w.if-is_operation.false),
            append-nil,
          ) c.loop-number.invariant
    ]

pub returns : goal.returns
returns c =
    let end : c.loop-number.number ≡ length (map as_parts c.args.parts.now) = simp length-map (omega arith) in
    rw (← end) c.loop-number.invariant
