use Rattle.std.proofs.Common.{◌≡◌, ℕ, ◌+◌, ◌-◌, arith, drop, map, subst}
use Rattle.ignore_rules.proofs.TableLemmas.{fits_more, none_fits, none_in, same_none}
use Rattle.ignore_rules.proofs.fit_table.fit_in.Goals as goal
use Rattle.ignore_rules.specs.Fits.{as_sign, fits}
use Rattle.ignore_rules.specs.Tables.{IsWindow}

pub returns-then-window-clause-places : goal.returns-then-window-clause-places
returns-then-window-clause-places g c first =
    let here = c.loop-index.invariant.1 first in
    let none = none_in _ _ _ _ here c.if-window.true in
    same_none _ _ _ _ _ here none (none_fits as_sign c.args.signs.now c.args.path.now c.loop-index.index none)

pub loop-index-preserved : goal.loop-index-preserved
loop-index-preserved g c =
    let i : ℕ = c.loop-index.index - 1 in
    let on : c.loop-index.index ≡ i + 1 = omega arith in (
      omega arith,
      λ first.
          let so_far = subst (λ (n : ℕ). IsWindow (fits (map as_sign (drop n c.args.signs.now))) c.args.path.now
          c.loop-index.window c.loop-index.table) on
          (c.loop-index.invariant.1 first) in
          let after = fits_more as_sign c.args.signs.now i c.index-signs-index.result c.args.path.now
          c.put-window.result c.put-window.new.table (omega arith)
          c.index-signs-index.is (c.put-window.ensures.places
          (fits (map as_sign (drop (i + 1) c.args.signs.now))) so_far) in
          record { answers = after.answers; within = c.trimmed-window.ensures.within after.within },
    )
