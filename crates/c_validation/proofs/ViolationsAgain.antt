-- A second validation, with the room that the first one counted.
use Rattle.std.proofs.Common.{◌≡◌, ◌∙◌, ◌<◌, ◌≤◌, ⊎_elim, [], ◌∷◌, ap, arith, sym, ℕ, List, length, refl, subst, take}
use Rattle.std.proofs.Common.{Option, option_map}
use Rattle.std.proofs.lemmas.Bool.{cases_lt}
use Rattle.apollo_tree.specs.Order.{Place}
use Rattle.apollo_parser.proofs.OneParse.{one-parse}
use Rattle.apollo_parser.specs.Parsed.{Parsed}
use Rattle.validation_rules.proofs.TextOrderLemmas.{one_order}
use Rattle.validation_rules.specs.Parts.{operations, parts_in}
use Rattle.variable_rules.proofs.WalkLemmas.{ends_once}
use Rattle.document_validation.specs.Breaches as validation
use Rattle.document_validation.specs.Breaches.{breaches_before}
use Rattle.c_parsing.proofs.Again.{filled-whole}
use Rattle.c_validation.proofs.Again.{no-refusal}
use Rattle.c_validation.proofs.Reports.{length-rows}
use Rattle.c_validation.specs.Again.{HoldViolations}
use Rattle.c_validation.specs.Outcomes.{Found, IsDocumentParse, IsFound, IsRefusal, IsValidated, UNDECIDED}
use Rattle.c_validation.specs.Outcomes.{ValidationOutcome, ViolationBuffers, in_part, limit_of, no_memory}
use Rattle.c_validation.specs.Outcomes.{not_a_document, not_utf8, not_validated, operation, root, validated}
use Rattle.c_validation.specs.Outcomes.{violation_counts, violations_written, whole}
use Rattle.c_validation.specs.Rows.{messages, violation_rows}
use Rattle.c_validation.specs.declared.rows.ViolationCounts.{ViolationCounts}

-- ---- what is found is one
module _ (most : ℕ) (limit : Option ℕ) (document : Place) (one other : Found)
    (first : IsFound most limit document one) (second : IsFound most limit document other) where
  same-end : first.end ≡ second.end
  same-end =
      let ds = parts_in (document ∷ []) in
      ends_once limit ds (operations ds) first.end second.end first.ends second.ends

  same-breaches : one.breaches ≡ other.breaches
  same-breaches =
      let exact : validation.AreFound most (breaches_before first.end (document ∷ [])) other.breaches =
      subst (λ e. validation.AreFound most (breaches_before e (document ∷ [])) other.breaches) (sym same-end)
      second.exact in
      one_order (take most (breaches_before first.end (document ∷ []))) one.breaches other.breaches first.exact exact

  same-undecided : one.undecided ≡ other.undecided
  same-undecided =
      let long : length one.breaches ≡ length other.breaches = ap length same-breaches in
      ⊎_elim
      (λ (room : length one.breaches < most).
      let also : length other.breaches < most = omega (arith, long, room) in
      first.undecided room ∙ ap (option_map (operation document)) same-end ∙ sym (second.undecided also))
      (λ (full : most ≤ length one.breaches).
      let also : most ≤ length other.breaches = omega (arith, long, full) in
      first.full full ∙ sym (second.full also))
      (cases_lt (length one.breaches) most)

  pub one-found : one ≡ other
  one-found =
      ap (λ bs. record { breaches = bs; undecided = one.undecided }) same-breaches
      ∙ ap (λ u. record { breaches = other.breaches; undecided = u }) same-undecided

-- violations were written
record Wrote (source : List ℕ) (r k most steps : ℕ) (before after : ViolationBuffers)
    (counts : ViolationCounts) : Type 0 where
  parsed : Parsed
  parse : IsDocumentParse source r k parsed
  found : Found
  is : IsFound most (limit_of steps) (root parsed) found
  written : after ≡ violations_written before found.breaches
  counted : counts ≡ violation_counts found

not-in-part : {source : List ℕ} {r k status : ℕ} → IsRefusal source r k status → status ≡ UNDECIDED → ⊥
not-in-part (not_utf8 why) is = omega (arith, is)
not-in-part (not_a_document why) is = omega (arith, is)
not-in-part no_memory is = omega (arith, is)

wrote : {source : List ℕ} {r k most steps : ℕ} {before after : ViolationBuffers} {counts : ViolationCounts}
    → ValidationOutcome source r k most steps before after counts → IsValidated counts.status
    → Wrote source r k most steps before after counts
wrote (validated {parsed = parsed} {found = found} parse is) done =
    record { parsed = parsed; parse = parse; found = found; is = is; written = refl; counted = refl }
wrote (not_validated refused) (whole is) = absurd (no-refusal refused is)
wrote (not_validated refused) (in_part is) = absurd (not-in-part refused is)

pub violations-again : (source : List ℕ) (r k most steps : ℕ) (before after room filled_room : ViolationBuffers)
    (first second : ViolationCounts)
    → ValidationOutcome source r k most steps before after first → IsValidated first.status
    → ValidationOutcome source r k most steps room filled_room second → IsValidated second.status
    → (second ≡ first)
    × (length room.violations ≡ first.violations → length room.messages ≡ first.message_bytes
    → HoldViolations source r k most steps filled_room)
violations-again source r k most steps before after room filled_room first second one done two done' =
    let f = wrote one done in
    let s = wrote two done' in
    let same : s.parsed ≡ f.parsed =
    one-parse s.parsed f.parsed s.parse.parse.promise.by_rules f.parse.parse.promise.by_rules in
    let also : IsFound most (limit_of steps) (root f.parsed) s.found =
    subst (λ (p : Parsed). IsFound most (limit_of steps) (root p) s.found) same s.is in
    let list : s.found ≡ f.found = one-found most (limit_of steps) (root f.parsed) s.found f.found also f.is in
    let second_is_first : second ≡ first = s.counted ∙ ap violation_counts list ∙ sym f.counted in (
      second_is_first,
      λ rows said. record {
        parsed = s.parsed;
        parse = s.parse;
        found = s.found;
        is = s.is;
        violations =
            ap (λ (b : ViolationBuffers). b.violations) s.written
            ∙ filled-whole room.violations (violation_rows 0 s.found.breaches)
            (rows ∙ sym (ap (λ (c : ViolationCounts). c.violations) (sym s.counted ∙ second_is_first))
            ∙ sym (length-rows 0 s.found.breaches));
        messages =
            ap (λ (b : ViolationBuffers). b.messages) s.written
            ∙ filled-whole room.messages (messages s.found.breaches)
            (said ∙ sym (ap (λ (c : ViolationCounts). c.message_bytes) (sym s.counted ∙ second_is_first)));
      },
    )
