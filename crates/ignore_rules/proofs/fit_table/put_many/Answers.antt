use Rattle.std.proofs.Common.{false, inl, inr, length, ◌≡◌, ℕ, ◌+◌, ◌-◌, ◌&&◌, ◌||◌, not, drop, get_or, refl, arith}
use Rattle.std.proofs.Common.{◌∙◌, subst}
use Rattle.std.proofs.lemmas.Bool.{cases_lt}
use Rattle.std.proofs.lemmas.Bool.Decides.{nat_tests}
use Rattle.std.specs.Prelude.{◌==◌}
use Rattle.ignore_rules.proofs.TableLemmas.{IsDown, down_all, down_first, down_to, many_entry, none_after, none_bytes}
use Rattle.ignore_rules.proofs.TableLemmas.{one_down}
use Rattle.ignore_rules.proofs.fit_table.put_many.Goals as goal
use Rattle.ignore_rules.proofs.fit_table.put_many.Goals.{then-table-index, else-table-index+then-path-index-ne-SLASH}
use Rattle.ignore_rules.proofs.fit_table.put_many.Goals.{else-table-index+else-path-index-ne-SLASH}
use Rattle.ignore_rules.specs.Fits.{after_bytes}

pub loop-index-init : goal.loop-index-init
loop-index-init c test is =
    down_first test c.args.path.now c.args.window c.args.table.now after_bytes c.min-index.result (none_bytes test)
    refl (omega arith)
    (elim (cases_lt (length c.args.path.now) c.args.window.end)
    [ inl whole ↦ inr (omega arith, omega arith) | inr part ↦ inl (omega arith) ]) is

pub loop-index-preserved : goal.loop-index-preserved
loop-index-preserved c test is =
    let i : ℕ = c.loop-index.index - 1 in
    let on : c.loop-index.index ≡ i + 1 = omega arith in
    let split : IsDown (after_bytes test) c.args.path.now (i + 1) c.args.table.now c.loop-index.table =
    subst (λ (n : ℕ). IsDown (after_bytes test) c.args.path.now n c.args.table.now c.loop-index.table) on
    (c.loop-index.invariant test is) in
    let here : get_or c.loop-index.table i false ≡ test (drop i c.args.path.now) =
    split.lower i (omega arith) ∙ is.answers i (omega arith) in
    let next = split.upper (i + 1) (omega arith) (omega arith) in
    let value : c.if-table-index.table
    ≡ (test (drop i c.args.path.now)
    || (not (get_or c.args.path.now i 0 == 47) && after_bytes test (drop (i + 1) c.args.path.now))) =
    elim c.if-table-index.branch [
      | then-table-index w ↦ grind (arith, nat_tests)
      | else-table-index+then-path-index-ne-SLASH w ↦ grind (arith, nat_tests)
      | else-table-index+else-path-index-ne-SLASH w ↦ grind (arith, nat_tests)
    ] in
    one_down _ _ _ _ _ _ (omega arith) (omega arith) (value ∙ many_entry test c.args.path.now i (omega arith)) split

pub returns-then-not-table-index-clause-places : goal.returns-then-not-table-index-clause-places
returns-then-not-table-index-clause-places c test is =
    let i : ℕ = c.loop-index.index - 1 in
    let on : c.loop-index.index ≡ i + 1 = omega arith in
    let split : IsDown (after_bytes test) c.args.path.now (i + 1) c.args.table.now c.loop-index.table =
    subst (λ (n : ℕ). IsDown (after_bytes test) c.args.path.now n c.args.table.now c.loop-index.table) on
    (c.loop-index.invariant test is) in
    down_to test _ c.args.window i _ _ c.requires.end (omega arith) (omega arith) c.if-not-table-index.true is split
    (none_after after_bytes test _ c.args.window _ (none_bytes test) is)

pub returns-clause-places : goal.returns-clause-places
returns-clause-places c test is =
    let none : c.loop-index.index ≡ 0 = omega arith in
    down_all test (after_bytes test) _ c.args.window _ _ c.requires.end is
    (subst (λ (n : ℕ). IsDown (after_bytes test) c.args.path.now n c.args.table.now c.loop-index.table) none
    (c.loop-index.invariant test is))
    (none_after after_bytes test _ c.args.window _ (none_bytes test) is)
