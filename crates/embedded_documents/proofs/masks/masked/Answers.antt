use Rattle.std.proofs.Common.{ℕ, List, arith, rules, subst}
use Rattle.embedded_documents.proofs.Parts.{blank_more, masked_more}
use Rattle.embedded_documents.proofs.masks.masked.Goals as goal
use Rattle.embedded_documents.specs.Steps.{IsTagged}

pub loop-start-preserved : goal.loop-start-preserved
loop-start-preserved c =
    let begun = c.loop-start.invariant in
    let step = c.next_step-step in
    let document : IsTagged c.args.text.now step.result.is_document =
    subst (λ (text : List ℕ). IsTagged text step.result.is_document) c.as_bytes-bytes.ensures.value
    step.ensures.document in
    record {
      within = search rules;
      contexts = search rules;
      bytes = masked_more _ _ _ _ _ (omega (arith, step.ensures.from)) begun.bytes c.in_ok-push_part.ensures.part;
      untagged = blank_more _ _ _ _ _ _ (omega (arith, step.ensures.from)) document begun.untagged
          c.in_ok-push_part.ensures.untagged;
    }
