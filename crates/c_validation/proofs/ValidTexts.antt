-- A text is found to be valid exactly if it is.
use Rattle.std.proofs.Common.{◌≡◌, ◌≢◌, ◌<◌, ap, arith, subst, refl, ℕ, List, [], ◌∷◌, length, Option, None, Some}
use Rattle.std.proofs.lemmas.List.{nil_from_length}
use Rattle.std.specs.Prelude.{◌↔◌}
use Rattle.apollo_tree.specs.Order.{Place}
use Rattle.apollo_parser.proofs.OneParse.{one-parse}
use Rattle.apollo_parser.specs.Parsed.{Parsed}
use Rattle.document_validation.specs.Breaches.{AreValid}
use Rattle.document_validation.specs.Validation.{AreDecided}
use Rattle.c_parsing.specs.Outcomes.{NO_MEMORY, OK}
use Rattle.c_validation.proofs.Again.{no-refusal}
use Rattle.c_validation.specs.Outcomes.{IsDocumentParse, IsRefusal, ValidationOutcome, ViolationBuffers, end_status}
use Rattle.c_validation.specs.Outcomes.{limit_of, no_memory, not_a_document, not_utf8, not_validated, root, validated}
use Rattle.c_validation.specs.ValidTexts.{IsValidText}
use Rattle.c_validation.specs.declared.rows.ViolationCounts.{ViolationCounts}

no-operation : (undecided : Option Place) → end_status undecided ≡ OK → undecided ≡ None
no-operation None is = refl
no-operation (Some p) is = absurd (omega (arith, is))

not-refused : {source : List ℕ} {r k status : ℕ} {parsed : Parsed} → IsRefusal source r k status
    → IsDocumentParse source r k parsed → status ≢ NO_MEMORY → ⊥
not-refused (not_utf8 why) parse kept = why parse.parse.utf8
not-refused (not_a_document why) parse kept =
    let sound = parse.parse.promise.sound parse.no_errors in
    why (record { tree = _; sentence = sound.0; within = sound.1 })
not-refused no_memory parse kept = kept refl

valid-text : {source : List ℕ} {r k most steps : ℕ} {before after : ViolationBuffers} {counts : ViolationCounts}
    → ValidationOutcome source r k most steps before after counts → 0 < most → counts.status ≢ NO_MEMORY
    → ((counts.status ≡ OK) × (counts.violations ≡ 0)) ↔ IsValidText source r k (limit_of steps)
valid-text {steps = steps} (validated {parsed = parsed} {found = found} parse is) some kept = (
  λ ok.
      let both = (is.valid some).0 (nil_from_length found.breaches ok.1, no-operation found.undecided ok.0) in
      record { parsed = parsed; parse = parse; valid = both.0; decided = both.1 },
  λ text.
      let same : text.parsed ≡ parsed =
      one-parse text.parsed parsed text.parse.parse.promise.by_rules parse.parse.promise.by_rules in
      let both = (is.valid some).1 (
        subst (λ (p : Parsed). AreValid (root p ∷ [])) same text.valid,
        subst (λ (p : Parsed). AreDecided (limit_of steps) (root p ∷ [])) same text.decided,
      ) in
      (ap end_status both.1, ap length both.0),
)
valid-text (not_validated refused) some kept =
    ((λ ok. absurd (no-refusal refused ok.0)), (λ text. absurd (not-refused refused text.parse kept)))

pub valid-texts : (source : List ℕ) (r k most steps : ℕ) (before after : ViolationBuffers) (counts : ViolationCounts)
    → ValidationOutcome source r k most steps before after counts → 0 < most → counts.status ≢ NO_MEMORY
    → ((counts.status ≡ OK) × (counts.violations ≡ 0)) ↔ IsValidText source r k (limit_of steps)
valid-texts source r k most steps before after counts outcome = valid-text outcome
