use Rattle.std.proofs.Common.{◌≡◌, ◌∙◌, sym, false, arith}
use Rattle.std.proofs.lemmas.Bool.Decides.{nat_tests}
use Rattle.c_validation.proofs.Readings.{has-errors, no-errors}
use Rattle.c_validation.proofs.documents.read_document.Goals as goal
use Rattle.c_validation.specs.Outcomes.{no_memory, not_a_document, not_utf8}

pub returns-in_default-clause-refusal : goal.returns-in_default-clause-refusal
returns-in_default-clause-refusal g c = not_utf8 c.in_default.ensures.cases.0

pub returns-in_default-parse-clause-refusal : goal.returns-in_default-parse-clause-refusal
returns-in_default-parse-clause-refusal g c = no_memory

pub returns-else-is_empty-clause-refusal : goal.returns-else-is_empty-clause-refusal
returns-else-is_empty-clause-refusal g c =
    let promise = rw (
      c.within.ensures.source,
      c.within.ensures.recursion_limit,
      c.within.ensures.token_limit,
      c.in-Ok.ensures.cases.0,
    )
    at c.in-Ok-parse.ensures.promise in
    let some : c.is_empty.result ≡ false = grind (arith, nat_tests) in
    not_a_document (has-errors _ _ _ c.in-Ok-parse.tree c.as_slice.result.now
    (c.as_slice.ensures.value ∙ c.errors.ensures)
    (sym c.is_empty.ensures ∙ some) promise)

pub returns-then-is_empty-clause-document : goal.returns-then-is_empty-clause-document
returns-then-is_empty-clause-document g c =
    let promise = rw (
      c.within.ensures.source,
      c.within.ensures.recursion_limit,
      c.within.ensures.token_limit,
      c.in-Ok.ensures.cases.0,
    )
    at c.in-Ok-parse.ensures.promise in
    record {
      parse = record { utf8 = c.in-Ok.ensures.cases.1; promise = promise };
      no_errors = no-errors c.in-Ok-parse.tree c.as_slice.result.now (c.as_slice.ensures.value ∙ c.errors.ensures)
          (sym c.is_empty.ensures ∙ c.if-is_empty.true);
    }
