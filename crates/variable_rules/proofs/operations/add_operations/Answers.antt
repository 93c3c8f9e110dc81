use Rattle.std.proofs.Common.{◌≡◌, ◌≢◌, ◌<◌, ◌≤◌, None, Some, true, false, arith, length, map, get_or, subst, sym}
use Rattle.std.proofs.Common.{⊎_elim}
use Rattle.std.proofs.lemmas.Bool.{cases_eq}
use Rattle.std.proofs.lemmas.Bool.Decides.{nat_tests}
use Rattle.std.proofs.lemmas.List.{get_or_default}
use Rattle.std.proofs.lemmas.List.Sums.{sum_by_more}
use Rattle.std.specs.List.{flat_map}
use Rattle.std.specs.List.Sorted.{IsPermutation}
use Rattle.validation_rules.proofs.AddLemmas.{adds_all, adds_next, is_full}
use Rattle.validation_rules.specs.Broken.{variables_of}
use Rattle.validation_rules.specs.Parts.{as_parts}
use Rattle.validation_rules.specs.Violations.{Adds}
use Rattle.variable_rules.proofs.ReachLemmas.{same_reached}
use Rattle.variable_rules.proofs.WalkLemmas.{adds_to_end, ends_once}
use Rattle.variable_rules.proofs.operations.add_operations.Goals as goal
use Rattle.variable_rules.specs.Steps.{EndsAt, before, steps_of}

pub add_operation-requires-clause-numbers : goal.add_operation-requires-clause-numbers
add_operation-requires-clause-numbers c =
    subst (λ xs. IsPermutation c.in_ok-numbers.numbers.items xs)
    (same_reached (map as_parts c.args.parts.now) c.args.graph.now
    (get_or c.args.operations.now c.loop-number.number 0) c.requires.graph)
    c.in_ok-numbers.ensures.found

pub loop-number-preserved : goal.loop-number-preserved
loop-number-preserved c =
    let ds = map as_parts c.args.parts.now in
    let operations = c.args.operations.now in
    let n = c.loop-number.number in
    let below = c.loop-number-test.true in
    let inv = c.loop-number.invariant in
    let sums = sum_by_more (steps_of ds) operations n 0 below in
    record {
      as_many = c.in_ok-numbers.ensures.as_many;
      unmarked = c.in_ok-numbers.ensures.unmarked;
      adds = adds_next (variables_of ds) operations n (get_or operations n 0) _ _ _ below
          (get_or_default operations n 0 (get_or operations n 0) below) inv.adds
          c.in_ok-more.ensures.adds;
      taken = let i = inv.taken in let m = c.in_ok-more.ensures.steps in let t = c.saturating_add-taken.ensures in
          omega arith;
      going_on = λ k less.
          ⊎_elim
          (λ (e : k ≡ n). rw e (sym (c.if-are_used_up.ensures _ inv.taken)))
          (λ (other : k ≢ n). let before : k < n = omega arith in inv.going_on k before)
          (cases_eq k n);
    }

pub returns-then-is_full-clause-adds : goal.returns-then-is_full-clause-adds
returns-then-is_full-clause-adds c end ends =
    let violations = c.loop-number.violations in
    adds_to_end c.args.steps (map as_parts c.args.parts.now) c.args.operations.now c.loop-number.number end _ violations
    (is_full violations c.if-is_full.ensures) c.loop-number.invariant.going_on ends c.loop-number.invariant.adds

pub returns-then-are_used_up-clause-adds : goal.returns-then-are_used_up-clause-adds
returns-then-are_used_up-clause-adds c end ends =
    let ds = map as_parts c.args.parts.now in
    let operations = c.args.operations.now in
    let number = c.loop-number.number in
    let here : EndsAt c.args.steps ds operations (Some number) = (
      c.loop-number-test.true,
      sym (c.if-are_used_up.ensures _ c.loop-number.invariant.taken),
      c.loop-number.invariant.going_on,
    ) in
    subst (λ e. Adds (flat_map (variables_of ds) (before e operations)) c.args.violations.now c.loop-number.violations)
    (ends_once c.args.steps ds operations (Some number) end here ends) c.loop-number.invariant.adds

pub returns-clause-adds : goal.returns-clause-adds
returns-clause-adds c end ends =
    let ds = map as_parts c.args.parts.now in
    let operations = c.args.operations.now in
    let all : EndsAt c.args.steps ds operations None =
    λ k below. let before : k < c.loop-number.number = omega arith in c.loop-number.invariant.going_on k before in
    subst (λ e. Adds (flat_map (variables_of ds) (before e operations)) c.args.violations.now c.loop-number.violations)
    (ends_once c.args.steps ds operations None end all ends)
    (adds_all (variables_of ds) operations c.loop-number.number _ _ (omega arith) c.loop-number.invariant.adds)

pub returns-then-is_full-clause-ended : goal.returns-then-is_full-clause-ended
returns-then-is_full-clause-ended c room =
    let v = c.loop-number.violations in
    let full = c.if-is_full.ensures in
    let le : v.most ≤ length v.list.items = grind (arith, nat_tests, full) in
    absurd (omega arith)

pub returns-then-are_used_up-clause-ended : goal.returns-then-are_used_up-clause-ended
returns-then-are_used_up-clause-ended c room = (
  c.loop-number-test.true,
  sym (c.if-are_used_up.ensures _ c.loop-number.invariant.taken),
  c.loop-number.invariant.going_on,
)

pub returns-then-are_used_up-clause-unlimited : goal.returns-then-are_used_up-clause-unlimited
returns-then-are_used_up-clause-unlimited c none =
    let used_up = c.if-are_used_up.ensures _ c.loop-number.invariant.taken in
    absurd (let e : true ≡ false = rw none at used_up in cc)

pub returns-clause-ended : goal.returns-clause-ended
returns-clause-ended c room k below =
    let before : k < c.loop-number.number = omega arith in
    c.loop-number.invariant.going_on k before

pub returns-then-are_used_up-clause-full : goal.returns-then-are_used_up-clause-full
returns-then-are_used_up-clause-full c full =
    let v = c.loop-number.violations in
    let room = c.if-is_full.ensures in
    let less : length v.list.items < v.most = grind (arith, nat_tests, room) in
    absurd (omega arith)
