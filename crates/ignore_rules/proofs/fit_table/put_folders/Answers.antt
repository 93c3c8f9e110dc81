use Rattle.std.proofs.Common.{false, ◌≡◌, ℕ, ◌+◌, ◌-◌, ◌&&◌, ◌||◌, drop, get_or, length, arith, ◌∙◌, subst, inl, inr}
use Rattle.std.proofs.Common.{sym}
use Rattle.std.proofs.Math.Bool.{or-false}
use Rattle.std.proofs.lemmas.Bool.{cases_lt}
use Rattle.std.proofs.lemmas.Bool.Decides.{nat_tests}
use Rattle.std.proofs.lemmas.List.{at_drop_all}
use Rattle.std.specs.Prelude.{◌==◌}
use Rattle.ignore_rules.proofs.TableLemmas.{IsDown, down_all, down_first, none_after, none_folders, none_slash}
use Rattle.ignore_rules.proofs.TableLemmas.{one_down, slash_entry}
use Rattle.ignore_rules.proofs.fit_table.put_folders.Goals as goal
use Rattle.ignore_rules.proofs.fit_table.put_folders.Goals.{then-below, else-below+then-path-index-eq-SLASH}
use Rattle.ignore_rules.proofs.fit_table.put_folders.Goals.{else-below+else-path-index-eq-SLASH, then-table-index}
use Rattle.ignore_rules.proofs.fit_table.put_folders.Goals.{else-table-index}
use Rattle.ignore_rules.specs.Fits.{after_sign, after_slash, folders}

pub loop-index-init : goal.loop-index-init
loop-index-init c test is = (
  down_first test c.args.path.now c.args.window c.args.table.now (after_sign folders) c.min-index.result
      (none_folders test) (or-false _)
      (omega arith)
      (elim (cases_lt (length c.args.path.now) c.args.window.end)
      [ inl whole ↦ inr (omega arith, omega arith) | inr part ↦ inl (omega arith) ]) is,
  elim (cases_lt c.min-index.result (length c.args.path.now)) [
    | inl low ↦ sym (none_after after_slash test _ c.args.window _ (none_slash test) is c.min-index.result
        (omega arith) (omega arith))
    | inr all ↦ sym (at_drop_all (after_slash test) c.args.path.now c.min-index.result all)
  ],
)

pub loop-index-preserved : goal.loop-index-preserved
loop-index-preserved c test is =
    let i : ℕ = c.loop-index.index - 1 in
    let on : c.loop-index.index ≡ i + 1 = omega arith in
    let split : IsDown (after_sign folders test) c.args.path.now (i + 1) c.args.table.now c.loop-index.table =
    subst (λ (n : ℕ). IsDown (after_sign folders test) c.args.path.now n c.args.table.now c.loop-index.table) on
    (c.loop-index.invariant test is).0 in
    let before : c.loop-index.below ≡ after_slash test (drop (i + 1) c.args.path.now) =
    subst (λ (n : ℕ). c.loop-index.below ≡ after_slash test (drop n c.args.path.now)) on
    (c.loop-index.invariant test is).1 in
    let here : get_or c.loop-index.table i false ≡ test (drop i c.args.path.now) =
    split.lower i (omega arith) ∙ is.answers i (omega arith) in
    let next = split.upper (i + 1) (omega arith) (omega arith) in
    let below : c.if-below.below
    ≡ ((get_or c.args.path.now i 0 == 47 && test (drop (i + 1) c.args.path.now))
    || after_slash test (drop (i + 1) c.args.path.now)) =
    elim c.if-below.branch [
      | then-below w ↦ grind (arith, nat_tests)
      | else-below+then-path-index-eq-SLASH w ↦ grind (arith, nat_tests)
      | else-below+else-path-index-eq-SLASH w ↦ grind (arith, nat_tests)
    ] in
    let later : c.if-below.below ≡ after_slash test (drop i c.args.path.now) =
    below ∙ slash_entry test c.args.path.now i (omega arith) in
    let value : c.if-table-index.table ≡ (test (drop i c.args.path.now) || after_slash test (drop i c.args.path.now)) =
    elim c.if-table-index.branch
    [ then-table-index w ↦ grind (arith, nat_tests) | else-table-index w ↦ grind (arith, nat_tests) ] in
    (one_down _ _ _ _ _ _ (omega arith) (omega arith) value split, later)

pub returns-clause-places : goal.returns-clause-places
returns-clause-places c test is =
    let none : c.loop-index.index ≡ 0 = omega arith in
    down_all test (after_sign folders test) _ c.args.window _ _ c.requires.end is
    (subst (λ (n : ℕ). IsDown (after_sign folders test) c.args.path.now n c.args.table.now c.loop-index.table) none
    (c.loop-index.invariant test is).0)
    (none_after (after_sign folders) test _ c.args.window _ (none_folders test) is)
